-- `differences_exchanged`
use Rattle.analysis.proofs.Common.{◌≡◌, refl, Bool, true, false, cond, eqb, ⊎_elim, Option, Some, None, ap, sym, ◌∙◌, List, ℕ, nat_cmp, cases_Bool, eqb-true}
use Rattle.analysis.proofs.Common.{eqb-false, eq-eqb, ne_eqb, count_of, exchanged_goods, goods_change}
use Rattle.analysis.proofs.Comparing.ExchangedChanges.{bundles_exchanged}
use Rattle.analysis.proofs.laws.differences_exchanged.Goals as goal

goods_exchanged : (m n : ℕ) → goods_change n m ≡ exchanged_goods (goods_change m n)
goods_exchanged m n =
    ⊎_elim (λ (t : eqb m n ≡ true). by true t (eq-eqb n m (sym (eqb-true m n t))))
    (λ (t : eqb m n ≡ false). by false t (ne_eqb n m (λ e. eqb-false m n t (sym e)))) (cases_Bool (eqb m n))
  where
    choice : Bool → Option (ℕ × ℕ)
    choice t = cond t None (Some (m, n))

    by : (t : Bool) → eqb m n ≡ t → eqb n m ≡ t → goods_change n m ≡ exchanged_goods (goods_change m n)
    by t e f = ap (λ b. cond {A = Option (ℕ × ℕ)} b None (Some (n, m))) f ∙ both t ∙ sym (ap (λ b. exchanged_goods (choice b)) e)
      where
        both : (b : Bool) → cond {A = Option (ℕ × ℕ)} b None (Some (n, m)) ≡ exchanged_goods (choice b)
        both true = refl
        both false = refl

pub returns : goal.returns
returns c = record {
  goods = λ a b one other are also. also.goods ∙ goods_exchanged a.goods b.goods ∙ sym (ap exchanged_goods are.goods);
  bundles = λ a b one other are also. bundles_exchanged a.or_atoms b.or_atoms one.bundles other.bundles are.bundles also.bundles;
  bidders = λ a b one other are also index. ap (λ (indices : List ℕ). count_of nat_cmp index indices) are.bidders.lefts ∙ sym (also.bidders.rights index);
}
