use Rattle.std.proofs.Common.{sym, ◌∙◌}
use Rattle.dsec_spec.specs.Names.{place}
use Rattle.dsec_negative.specs.Views.{record_at}
use Rattle.dsec_negative.proofs.ShownLaws.{own_apex, own_ds, own_parent, own_type}
use Rattle.dsec_negative.proofs.shown.own_shows.Goals as goal

pub returns-then-is_apex : goal.returns-then-is_apex
returns-then-is_apex c = λ owner.
    own_apex (record_at owner c.args.nsec.now) (place c.args.target.now) c.args.rtype (sym c.has.ensures ∙ c.if-has.false) (sym c.has-else-has.ensures ∙ c.if-has-2.false)
    (sym c.is_ds_above.ensures ∙ c.if-is_ds_above.true) (sym (c.is_apex.ensures owner) ∙ c.if-is_apex.true)

pub returns-then-is_ds_above : goal.returns-then-is_ds_above
returns-then-is_ds_above c = λ owner.
    own_ds (record_at owner c.args.nsec.now) (place c.args.target.now) c.args.rtype (sym c.has.ensures ∙ c.if-has.false) (sym c.has-else-has.ensures ∙ c.if-has-2.false)
    (sym c.is_ds_above.ensures ∙ c.if-is_ds_above.true) (sym (c.is_apex.ensures owner) ∙ c.if-is_apex.false)

pub returns-then-is_above_cut : goal.returns-then-is_above_cut
returns-then-is_above_cut c = λ owner.
    own_parent (record_at owner c.args.nsec.now) (place c.args.target.now) c.args.rtype (sym c.has.ensures ∙ c.if-has.false) (sym c.has-else-has.ensures ∙ c.if-has-2.false)
    (sym c.is_ds_above.ensures ∙ c.if-is_ds_above.false) (sym (c.is_above_cut.ensures owner) ∙ c.if-is_above_cut.true)

pub returns : goal.returns
returns c = λ owner.
    own_type (record_at owner c.args.nsec.now) (place c.args.target.now) c.args.rtype (sym c.has.ensures ∙ c.if-has.false) (sym c.has-else-has.ensures ∙ c.if-has-2.false)
    (sym c.is_ds_above.ensures ∙ c.if-is_ds_above.false) (sym (c.is_above_cut.ensures owner) ∙ c.if-is_above_cut.false)
