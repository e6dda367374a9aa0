use Rattle.std.proofs.Common.{sym, subst}
use Rattle.dsec_group.specs.Keys.{HasFreshKey}
use Rattle.dsec_group.specs.Places.{SeededGroups}
use Rattle.dsec_group.proofs.PlaceLaws.{kept_more}
use Rattle.dsec_group.proofs.set.GroupSet.push.Goals as goal

pub invariant_of-self-2 : goal.invariant_of-self-2
invariant_of-self-2 c =
    kept_more c.self.inside.places c.note.new.self c.deref.result.now c.self.inside.groups.items c.push.new.self.items c.args.group c.leader.result.now c.deref.ensures.value c.self.invariant
    (subst (λ (all : SeededGroups). HasFreshKey c.args.group all.groups) (sym c.self.view_is) c.requires.fresh) c.leader.ensures.leads c.in_ok-push.ensures.items c.in_ok-note.ensures.noted
