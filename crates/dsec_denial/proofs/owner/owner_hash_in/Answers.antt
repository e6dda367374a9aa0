use Rattle.std.proofs.Common.{◌++◌, List, ℕ, sym, ap, ◌∙◌}
use Rattle.std.proofs.lemmas.Bool.{false≢true}
use Rattle.dsec_spec.specs.Names.{wire_octets}
use Rattle.dsec_denial.proofs.OwnerLaws.{first_writes}
use Rattle.dsec_denial.proofs.owner.owner_hash_in.Goals as goal

pub returns : goal.returns
returns c =
    first_writes c.args.owner.now c.deref.result.now c.hash_at_front.result (λ root. false≢true (sym c.if-is_root.false ∙ c.is_root.ensures.1 root)) c.in_ok-compose.ensures.name
    (c.deref.ensures.value ∙ (c.in_ok-compose.ensures.ok ∙ ap (λ (xs : List ℕ). xs ++ wire_octets c.args.owner.now) c.new-octets.ensures.items))
    c.hash_at_front.ensures
