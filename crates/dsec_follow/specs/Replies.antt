-- What a path of aliases goes by, as the code keeps it.
use Rattle.dsec_spec.specs.Names.{Labels}
use Rattle.dsec_spec.specs.Messages.{Question}
use Rattle.dsec_alias.specs.Candidates.{Reply}
use Rattle.dsec_nsec3_calls.specs.Views.{hash_limits}
use Rattle.dsec_nodes.specs.Aliases.{Beside, reply_of}
use Rattle.dsec_follow.specs.declared.reply.Reply as code

-- how far hashes are followed, the anchors, the class and the type that are asked for, and the judged groups of both sections
abbrev pub reply_view : {V : Type 0} → code.Reply V → Reply Beside
reply_view reply = reply_of (hash_limits reply.limits.now) reply.anchors.now reply.class reply.rtype reply.answers.now reply.authorities.now

-- the question at a name that aliases lead to
abbrev pub asked_in : {V : Type 0} → code.Reply V → Labels → Question
asked_in reply name = record { name = name; rtype = reply.rtype; class = reply.class }
