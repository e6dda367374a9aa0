use Rattle.std.proofs.Common.{◌∙◌, map, get_or, sym}
use Rattle.std.proofs.lemmas.List.{get_or_default}
use Rattle.dsec_spec.proofs.Choosing.{passes}
use Rattle.dsec_spec.proofs.Members.{in_map}
use Rattle.dsec_sorted.specs.Sets.{differ_in_ttl}
use Rattle.dsec_sign.specs.Places.{set_at}
use Rattle.dsec_sign.specs.declared.zone_sets.SetAt.{SetAt}
use Rattle.dsec_sign.proofs.allowed.have_several_ttls.Goals as goal

pub returns-then-has_several_ttls : goal.returns-then-has_several_ttls
returns-then-has_several_ttls c =
    let records = c.args.records.now in
    let sets = c.args.sets.now in
    let zero : SetAt = record { start = 0; size = 0 } in
    let item = get_or sets c.loop-set.set-index zero in
    sym (passes differ_in_ttl (map (set_at records) sets) (set_at records item)
    (in_map (set_at records) sets item (c.loop-set.set-index, c.loop-set-test.true, get_or_default sets c.loop-set.set-index item zero c.loop-set-test.true))
    (sym c.has_several_ttls.ensures ∙ c.if-has_several_ttls.true))
