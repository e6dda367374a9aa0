use Rattle.std.proofs.Common.{[], ◌∷◌, List, sym, subst}
use Rattle.dsec_spec.specs.Records.{Record}
use Rattle.dsec_spec.specs.SignedZones.{IsUnion}
use Rattle.dsec_sorted.specs.Inserting.{IsReason}
use Rattle.dsec_sorted.specs.declared.sorted.InsertError.{InsertError}
use Rattle.dsec_signing.proofs.Adding.{union_new, union_present}
use Rattle.dsec_signing.proofs.making.add.Goals as goal

pub returns-in-Ok : goal.returns-in-Ok
returns-in-Ok c = union_new c.args.zone.now c.insert.new.self c.args.one c.in_order.ensures c.in-Ok.ensures.canonical c.in-Ok.ensures.ok c.in-Ok.ensures.why

pub returns-in-Err-Duplicate : goal.returns-in-Err-Duplicate
returns-in-Err-Duplicate c =
    let why = subst (λ (e : InsertError). IsReason e c.args.one c.args.zone.now) c.in-Err-Duplicate.field-0-is c.in-Err-Duplicate.ensures.why in
    subst (λ (new : List Record). IsUnion c.args.zone.now (c.args.one ∷ []) new) (sym c.in-Err-Duplicate.ensures.err) (union_present c.args.zone.now c.args.one c.in_order.ensures why.1)
