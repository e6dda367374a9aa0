use Rattle.dsec_spec.specs.Names.{place}
use Rattle.dsec_name.specs.NameLaws.{same_place_decides}
use Rattle.dsec_name.proofs.laws.law_of_equality.Goals as goal

pub returns : goal.returns
returns c = λ x y. let d = same_place_decides (place x) (place y) in (d.0, d.1)
