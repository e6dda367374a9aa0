-- Where denials are looked for, as the code keeps it.
use Rattle.dsec_absence.specs.Answers.{Source}
use Rattle.dsec_negative.specs.Views.{source_of}
use Rattle.dsec_negative.specs.declared.source.Source as code

-- the groups, the class and the zone
abbrev pub source_view : {V : Type 0} → code.Source V → Source
source_view source = source_of source.groups.now source.class source.signer.now
