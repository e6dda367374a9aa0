use Rattle.std.proofs.Common.{◌==◌, sym, ◌∙◌}
use Rattle.dsec_spec.specs.Names.{place}
use Rattle.dsec_nsec3.specs.HashedAnswers.{type_from}
use Rattle.dsec_nsec3.specs.Walks.{nsec3_for_not_exists}
use Rattle.dsec_nsec3_calls.specs.Sources.{limits_view, seen_view, source_view}
use Rattle.dsec_nsec3_calls.specs.Walked.{walk_view}
use Rattle.dsec_spec.specs.Numbers.{DS}
use Rattle.dsec_nsec3_calls.proofs.ToldLaws.{not_true, not_false}
use Rattle.dsec_nsec3_calls.proofs.TypeLaws.{not_ds, walk_tells, walk_leaves}
use Rattle.dsec_nsec3_calls.proofs.types.type_by_hash.Goals as goal

pub returns-then-ne : goal.returns-then-ne
returns-then-ne g c =
    let n = place c.args.target.now in
    not_ds n c.args.rtype (type_from n c.args.rtype 0 (seen_view c.args.source.now)) (nsec3_for_not_exists (limits_view c.args.source.now) (source_view c.args.source.now) n) c.search_type.result
    (not_true (c.args.rtype == DS) (sym c.ne.ensures ∙ c.if-ne.true)) c.search_type.ensures

pub returns-in-Some : goal.returns-in-Some
returns-in-Some g c =
    let n = place c.args.target.now in
    let later = type_from n c.args.rtype 0 (seen_view c.args.source.now) in
    walk_tells n c.args.rtype later (nsec3_for_not_exists (limits_view c.args.source.now) (source_view c.args.source.now) n) c.in-Some.told
    (not_false (c.args.rtype == DS) (sym c.ne.ensures ∙ c.if-ne.false)) (walk_view c.args.target.now c.walk-walk.result.0) c.walk-walk.ensures.walk c.ds_by.result (c.ds_by.ensures c.args.target.now n later) c.in-Some.is

pub returns-in-None : goal.returns-in-None
returns-in-None g c =
    let n = place c.args.target.now in
    let later = type_from n c.args.rtype 0 (seen_view c.args.source.now) in
    walk_leaves n c.args.rtype later (nsec3_for_not_exists (limits_view c.args.source.now) (source_view c.args.source.now) n) c.search_type-in-None.result
    (not_false (c.args.rtype == DS) (sym c.ne.ensures ∙ c.if-ne.false)) (walk_view c.args.target.now c.walk-walk.result.0) c.walk-walk.ensures.walk c.ds_by.result (c.ds_by.ensures c.args.target.now n later) c.in-None.is c.search_type-in-None.ensures
