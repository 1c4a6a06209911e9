-- Texts that are reported one after the other.
use Rattle.cats_cmd.proofs.Common.{◌≡◌, ℕ, ◌+◌, ◌<◌, true, false, List, [], ◌∷◌, ◌++◌, length, get_or, take, refl, sym, ap, ◌∙◌, inl, inr, ⊎_elim, subst, arith}
use Rattle.cats_cmd.proofs.Common.{append-nil, length-append, Option, Result, Ok, Err, flat_map, Appends-nil, Appends-trans, Appends, take-append-add}
use Rattle.cats_cmd.proofs.Common.{both_ways, cases_Bool, flat_map-append, take_more, take-append-le, Sends, SendsPart, SendsWhole, has_failed, inner_of}
use Rattle.cats_cmd.proofs.Common.{SendFault, Watched, Reports, SendsText}

module _ {E : Type 0} (messages : E → Option (List ℕ)) where
  pub reports_nothing : (err : Watched E) → Reports messages [] err err
  reports_nothing err =
      ⊎_elim
      (λ (failed : has_failed err ≡ true). inl (failed, refl))
      (λ (works : has_failed err ≡ false).
      inr (works, record { answer = Ok tt; sends = record { appended = Appends-nil (messages (inner_of err)); works = works } }))
      (cases_Bool (has_failed err))

  -- the first text was sent whole
  more_sent : (text more : List ℕ) (old mid new : Watched E) → SendsWhole messages old mid text → (answer : Result (Unit {0}) SendFault)
      → Sends messages mid new more answer → SendsText messages (text ++ more) old new
  more_sent text more old mid new whole (Ok u) then = record {
    answer = Ok u;
    sends = record {
      appended = Appends-trans (messages (inner_of old)) (messages (inner_of mid)) (messages (inner_of new)) text more whole.appended then.appended;
      works = then.works;
    };
  }
  more_sent text more old mid new whole (Err fault) part = record {
    answer = Err (record { written = length text + fault.written });
    sends = record {
      within = omega (arith, length-append text more, part.within);
      appended = subst (λ (t : List ℕ). Appends (messages (inner_of old)) (messages (inner_of new)) t) (sym (take-append-add text more fault.written))
          (Appends-trans (messages (inner_of old)) (messages (inner_of mid)) (messages (inner_of new)) text (take fault.written more) whole.appended
          part.appended);
      failed = part.failed;
    };
  }

  -- the stream failed in the first text
  part_sent : (text more : List ℕ) (old mid : Watched E) (fault : SendFault) → SendsPart messages old mid text fault.written
      → SendsText messages (text ++ more) old mid
  part_sent text more old mid fault part = record {
    answer = Err fault;
    sends = record {
      within = omega (arith, length-append text more, part.within);
      appended = subst (λ (t : List ℕ). Appends (messages (inner_of old)) (messages (inner_of mid)) t)
          (sym (take-append-le fault.written text more part.within)) part.appended;
      failed = part.failed;
    };
  }

  sent_then : (text more : List ℕ) (old mid new : Watched E) → has_failed old ≡ false → (answer : Result (Unit {0}) SendFault)
      → Sends messages old mid text answer → Reports messages more mid new → Reports messages (text ++ more) old new
  sent_then text more old mid new works (Ok u) whole (inl failed) = absurd (both_ways (has_failed mid) whole.works failed.0)
  sent_then text more old mid new works (Ok u) whole (inr sent) = inr (works, more_sent text more old mid new whole sent.1.answer sent.1.sends)
  sent_then text more old mid new works (Err fault) part (inl failed) = inr (works, rw failed.1 (part_sent text more old mid fault part))
  sent_then text more old mid new works (Err fault) part (inr sent) = absurd (both_ways (has_failed mid) sent.0 part.failed)

  pub reports_then : (text more : List ℕ) (old mid new : Watched E) → Reports messages text old mid → Reports messages more mid new
      → Reports messages (text ++ more) old new
  reports_then text more old mid new (inr sent) then = sent_then text more old mid new sent.0 sent.1.answer sent.1.sends then
  reports_then text more old mid new (inl failed) (inl again) = inl (failed.0, again.1 ∙ failed.1)
  reports_then text more old mid new (inl failed) (inr sent) =
      absurd (both_ways (has_failed mid) sent.0 (ap (λ (w : Watched E). has_failed w) failed.1 ∙ failed.0))

  -- three texts
  pub reports_three : (one two three : List ℕ) (a b c d : Watched E) → Reports messages one a b → Reports messages two b c
      → Reports messages three c d → Reports messages (one ++ two ++ three) a d
  reports_three one two three a b c d first second third = reports_then (one ++ two) three a c d (reports_then one two a b c first second) third

  -- of a list of texts: one more
  pub reports_next : {X : Type 0} (f : X → List ℕ) (xs : List X) (i : ℕ) (d : X) → i < length xs → (a b c : Watched E)
      → Reports messages (flat_map f (take i xs)) a b → Reports messages (f (get_or xs i d)) b c → Reports messages (flat_map f (take (i + 1) xs)) a c
  reports_next f xs i d l a b c before now =
      rw (take_more xs i d l, flat_map-append f (take i xs) (get_or xs i d ∷ []), append-nil (f (get_or xs i d)))
      (reports_then (flat_map f (take i xs)) (f (get_or xs i d)) a b c before now)
