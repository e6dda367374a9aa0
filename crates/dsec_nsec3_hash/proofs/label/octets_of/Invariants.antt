use Rattle.dsec_nsec3_hash.proofs.LabelLaws.{HasRead}
use Rattle.dsec_nsec3_hash.proofs.label.octets_of.Given as goal

abbrev pub invariant-loop-character : goal.invariant-loop-character
invariant-loop-character l = HasRead l.label l.character-index l.held l.bits l.octets.items
