-- What the code reads of a reply.
use Rattle.dsec_nodes.specs.Replies as nodes
use Rattle.dsec_child.specs.declared.reply.Reply.{Reply}
use Rattle.dsec_child.specs.declared.reply.Reply.TheVariants.{Failed, Unreadable, Sections}

-- what a question brought, as the definitions have it
abbrev pub reply_view : Reply → nodes.Reply
reply_view Failed = nodes.failed
reply_view Unreadable = nodes.unreadable
reply_view (Sections answers authorities) = nodes.sections answers.groups authorities.groups
