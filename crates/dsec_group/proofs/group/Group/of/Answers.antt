use Rattle.std.proofs.Common.{sym, ◌∙◌}
use Rattle.dsec_group.proofs.TypeLaws.{new_plain, new_signed}
use Rattle.dsec_group.proofs.group.Group.of.Goals.{then-eq+in_ok-add, else-eq+in_ok-add-2}
use Rattle.dsec_group.proofs.group.Group.of.Goals as goal

pub invariant_of-result : goal.invariant_of-result
invariant_of-result c =
    elim c.if-eq.branch [
      | then-eq+in_ok-add w ↦
          rw (w.records-is, w.signatures-is)
          (new_signed c.args.next c.new-records.result c.new-signatures.result w.add.new.self (rw c.rtype.ensures at (sym c.eq.ensures ∙ w.if-eq.true)) c.new-records.ensures c.new-signatures.ensures w.in_ok-add.ensures.ok)
      | else-eq+in_ok-add-2 w ↦
          rw (w.records-is, w.signatures-is)
          (new_plain c.args.next c.new-records.result c.new-signatures.result w.add-else-eq.new.self (rw c.rtype.ensures at (sym c.eq.ensures ∙ w.if-eq.false)) c.new-records.ensures c.new-signatures.ensures w.in_ok-add-2.ensures.ok)
    ]
