use Rattle.std.proofs.Common.{ap, ◌∙◌, sym}
use Rattle.dsec_zonefile.specs.Entries.{HeldText}
use Rattle.dsec_zonefile.proofs.NextEntry.{still_refused}
use Rattle.dsec_zonefile.proofs.zonefile.Zonefile.next_entry.Goals as goal

pub returns-in-Some-clause-next : goal.returns-in-Some-clause-next
returns-in-Some-clause-next c = still_refused c.args.self.now.reader c.in-Some.line (sym (ap (λ (it : HeldText). it.reader.refused) c.self.view_is) ∙ c.in-Some.is)
