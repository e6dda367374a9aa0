use Rattle.std.proofs.Common.{sym, ◌∙◌}
use Rattle.dsec_spec.specs.Names.{place}
use Rattle.dsec_negative.specs.Views.{record_at, type_shown}
use Rattle.dsec_negative.proofs.ShownLaws.{shown_own}
use Rattle.dsec_negative.proofs.shown.shows_type.Goals as goal

pub returns-then-is_same : goal.returns-then-is_same
returns-then-is_same c =
    shown_own (record_at c.args.owner.now c.args.nsec.now) (place c.args.target.now) c.args.rtype (type_shown c.own_shows.result) (sym c.is_same.ensures ∙ c.if-is_same.true) (c.own_shows.ensures c.args.owner.now)
