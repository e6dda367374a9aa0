-- What an upstream has heard, where it tells it: each question with its reply, or none where it failed, in the order in which they were asked.
use Rattle.std.specs.Prelude.{◌≡◌, ℕ, List, map, Option, Some, None, Vec, Result, Ok, Err}
use Rattle.std.specs.declared.alloc.Global.{Global}
use Rattle.dsec_spec.specs.Outside.{Entry, heard_more}
use Rattle.dsec_spec.specs.Names.{Labels}
use Rattle.dsec_outside.specs.declared.upstream.AskError.{AskError}
use Rattle.dsec_outside.specs.declared.upstream.AskError.TheVariants as ask
use Rattle.dsec_outside.specs.declared.heard.Heard.{Heard}

-- a question, with a reply or none
abbrev pub entry : Labels → ℕ → Option (List ℕ) → Entry
entry name rtype reply = record { name = name; rtype = rtype; reply = reply }

-- what was heard of it as an entry
abbrev pub entry_of : Heard → Entry
entry_of one = entry one.name one.rtype one.reply

-- a question was heard with its answer; one that finds no memory is not
abbrev pub Notes : Option (List Entry) → Option (List Entry) → Labels → ℕ → Result (Vec ℕ Global) AskError → Type 0
Notes before now name rtype (Ok reply) = now ≡ heard_more before (entry name rtype (Some reply.items))
Notes before now name rtype (Err ask.Failed) = now ≡ heard_more before (entry name rtype None)
Notes before now name rtype (Err ask.NoMemory) = now ≡ before
