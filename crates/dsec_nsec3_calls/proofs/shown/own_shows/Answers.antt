use Rattle.std.proofs.Common.{sym, ◌∙◌}
use Rattle.dsec_spec.specs.Names.{place}
use Rattle.dsec_nsec3_calls.specs.Views.{nsec3_at}
use Rattle.dsec_nsec3_calls.proofs.ShownLaws.{own_apex, own_ds, own_parent, own_type}
use Rattle.dsec_nsec3_calls.proofs.shown.own_shows.Goals as goal

pub returns-then-is_apex : goal.returns-then-is_apex
returns-then-is_apex c = λ zone owner.
    own_apex c.args.index (nsec3_at zone owner c.args.nsec3.now) (place c.args.target.now) c.args.rtype (sym c.has.ensures ∙ c.if-has.false) (sym c.has-else-has.ensures ∙ c.if-has-2.false)
    (sym c.is_ds_above.ensures ∙ c.if-is_ds_above.true) (sym (c.is_apex.ensures zone owner) ∙ c.if-is_apex.true)

pub returns-then-is_ds_above : goal.returns-then-is_ds_above
returns-then-is_ds_above c = λ zone owner.
    own_ds c.args.index (nsec3_at zone owner c.args.nsec3.now) (place c.args.target.now) c.args.rtype (sym c.has.ensures ∙ c.if-has.false) (sym c.has-else-has.ensures ∙ c.if-has-2.false)
    (sym c.is_ds_above.ensures ∙ c.if-is_ds_above.true) (sym (c.is_apex.ensures zone owner) ∙ c.if-is_apex.false)

pub returns-then-is_cut : goal.returns-then-is_cut
returns-then-is_cut c = λ zone owner.
    own_parent c.args.index (nsec3_at zone owner c.args.nsec3.now) (place c.args.target.now) c.args.rtype (sym c.has.ensures ∙ c.if-has.false) (sym c.has-else-has.ensures ∙ c.if-has-2.false)
    (sym c.is_ds_above.ensures ∙ c.if-is_ds_above.false) (sym (c.is_cut.ensures zone owner) ∙ c.if-is_cut.true)

pub returns : goal.returns
returns c = λ zone owner.
    own_type c.args.index (nsec3_at zone owner c.args.nsec3.now) (place c.args.target.now) c.args.rtype (sym c.has.ensures ∙ c.if-has.false) (sym c.has-else-has.ensures ∙ c.if-has-2.false)
    (sym c.is_ds_above.ensures ∙ c.if-is_ds_above.false) (sym (c.is_cut.ensures zone owner) ∙ c.if-is_cut.false)
