use Rattle.std.proofs.Common.{◌≡◌, OnOk, ap, subst, sym, ◌∙◌}
use Rattle.dsec_group.specs.Adding.{placed}
use Rattle.dsec_group.proofs.GroupLaws.{groups_more}
use Rattle.dsec_group.proofs.set.GroupSet.add.Goals as goal

pub returns-clause-section : goal.returns-clause-section
returns-clause-section c = λ section e.
    subst (λ gs. OnOk c.place.result (c.place.new.self.groups ≡ gs)) (ap (placed c.args.next) e ∙ sym (groups_more section c.args.next)) c.place.ensures.ok
