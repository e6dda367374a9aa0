use Rattle.std.proofs.Common.{sym}
use Rattle.dsec_context.proofs.context.ValidationContext.validate_msg.Goals as goal

pub returns-clause-handed_on : goal.returns-clause-handed_on
returns-clause-handed_on g c = rw (sym c.self.view_is) c.validate_in.ensures.handed_on

pub returns-clause-sound : goal.returns-clause-sound
returns-clause-sound g c = rw (sym c.self.view_is) c.validate_in.ensures.sound
