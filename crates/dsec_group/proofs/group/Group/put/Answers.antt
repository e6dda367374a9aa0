use Rattle.std.proofs.Common.{sym, ap, ◌∙◌}
use Rattle.dsec_group.specs.Adding.{belongs_to}
use Rattle.dsec_group.proofs.TypeLaws.{put_plain, put_signed}
use Rattle.dsec_group.proofs.group.Group.put.Goals as goal

pub invariant_of-self-then-eq : goal.invariant_of-self-then-eq
invariant_of-self-then-eq c =
    put_signed c.args.next c.self.inside.records c.self.inside.signatures c.add.new.self (rw c.rtype.ensures at (sym c.eq.ensures ∙ c.if-eq.true)) (ap (belongs_to c.args.next) c.self.view_is ∙ c.requires) c.in_ok-found.ensures.ok c.self.invariant

pub invariant_of-self-else-eq : goal.invariant_of-self-else-eq
invariant_of-self-else-eq c =
    put_plain c.args.next c.self.inside.records c.self.inside.signatures c.add-else-eq.new.self (rw c.rtype.ensures at (sym c.eq.ensures ∙ c.if-eq.false)) (ap (belongs_to c.args.next) c.self.view_is ∙ c.requires) c.in_ok-found-2.ensures.ok c.self.invariant
