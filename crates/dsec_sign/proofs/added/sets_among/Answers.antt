use Rattle.std.proofs.Common.{List, subst, sym}
use Rattle.std.specs.Prelude.{All}
use Rattle.dsec_spec.specs.CanonicalRecords.{AreOfOneClass, IsCanonical}
use Rattle.dsec_spec.specs.Records.{Record}
use Rattle.dsec_sorted.specs.Sets.{AreOfOneSet}
use Rattle.dsec_sign.specs.Places.{set_at}
use Rattle.dsec_sign.proofs.added.sets_among.Goals as goal

pub sets_to_sign-requires-clause-canonical : goal.sets_to_sign-requires-clause-canonical
sets_to_sign-requires-clause-canonical c = subst (λ (xs : List Record). IsCanonical xs) (sym c.owners_of-owners.ensures) c.requires.canonical

pub sets_to_sign-requires-clause-class : goal.sets_to_sign-requires-clause-class
sets_to_sign-requires-clause-class c = subst (λ (xs : List Record). AreOfOneClass xs) (sym c.owners_of-owners.ensures) c.requires.class

pub returns-clause-one : goal.returns-clause-one
returns-clause-one c =
    subst (λ (xs : List Record). All (λ it. AreOfOneSet (set_at xs it)) c.in_ok-sets.sets.items) c.owners_of-owners.ensures c.in_ok-sets.ensures.one
