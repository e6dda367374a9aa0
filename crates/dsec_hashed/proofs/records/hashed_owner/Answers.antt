use Rattle.std.proofs.Common.{◌∙◌, ◌++◌, ◌∷◌, [], List, ℕ, ap}
use Rattle.dsec_spec.specs.Base32hex.{base32hex}
use Rattle.dsec_spec.specs.Names.{wire_octets}
use Rattle.dsec_hashed.proofs.OwnerLaws.{owner_is, owner_name}
use Rattle.dsec_hashed.proofs.records.hashed_owner.Goals as goal

pub returns-in-Ok-clause-name : goal.returns-in-Ok-clause-name
returns-in-Ok-clause-name c =
    let apex = c.args.apex.now in
    let hash = c.args.hash.now in
    owner_is hash c.deref.result.now apex c.in-Ok.owner c.told-hash
    (c.deref.ensures.value ∙ (c.in_ok-compose.ensures.ok ∙ ap (λ (x : List ℕ). x ++ wire_octets apex)
    (c.in_ok-push_label.ensures ∙ ap (λ (x : List ℕ). x ++ base32hex hash) (c.in_ok-push.ensures.items ∙ ap (λ (x : List ℕ). x ++ 32 ∷ []) c.new-octets.ensures.items))))
    c.in-Ok.ensures.meaning.0.is

pub returns-in-Ok-clause-fits : goal.returns-in-Ok-clause-fits
returns-in-Ok-clause-fits c = owner_name c.args.hash.now c.args.apex.now c.told-hash c.compose.ensures.name c.requires
