-- `files_with_dummy_goods_exchanged_are_alike`
use Rattle.canon.proofs.TwoFiles.DummiesExchanged.{alike_exchanged}
use Rattle.canon.proofs.laws.files_with_dummy_goods_exchanged_are_alike.Goals as goal

pub returns : goal.returns
returns c f dummies facts moved = alike_exchanged f dummies facts moved
