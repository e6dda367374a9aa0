-- The outside: counts that stay at their last value, faults and their causes, what went out, and what an
-- upstream answers.
use Rattle.std.specs.Prelude.{◌≡◌, ℕ, zero, suc, ◌+◌, ◌-◌, ◌^◌, ◌≤◌, ◌==◌, ◌&&◌, min, List, [], ◌∷◌, ◌++◌, take, Bool, find, Option, None, Some, IfSome, Result, OnErr, if◌then◌else◌}
use Rattle.std.specs.List.{list_any}
use Rattle.std.specs.Option.{option_map}
use Rattle.std.specs.Io.KnownBytes.{Appends}
use Rattle.dsec_spec.specs.Names.{Labels, place, same_place}

-- the last value of a count
abbrev pub last_count : ℕ
last_count = 2 ^ 64 - 1

-- a count that rises by one, or stays at its last value
abbrev pub risen : ℕ → ℕ
risen before = min (before + 1) last_count

-- a count that rose so often, or stands at its last value
abbrev pub risen_by : ℕ → ℕ → ℕ
risen_by before zero = before
risen_by before (suc more) = risen (risen_by before more)

-- a count rose, or stands at its last value
abbrev pub Rose : ℕ → ℕ → Type 0
Rose before now = risen before ≤ now

-- a count of faults never falls, and a call fails only where it rose
pub record HasCause {T E : Type 0} (before now : ℕ) (result : Result T E) : Type 0 where
  pub later : before ≤ now
  pub failed : OnErr result (Rose before now)

-- where it is told what was written, a front of the text was added to it: all, a part or nothing
abbrev pub SentFront : Option (List ℕ) → Option (List ℕ) → List ℕ → Type 0
SentFront before after text = (n : ℕ) × Appends before after (take n text)

-- an answer that is kept for a question: a reply, or none where the question fails
pub record Entry : Type 0 where
  pub name : Labels
  pub rtype : ℕ
  pub reply : Option (List ℕ)

-- answers, in the order in which they are looked through
abbrev pub Table : Type 0
Table = List Entry

-- whether the entry is the question's
abbrev pub answers : Labels → ℕ → Entry → Bool
answers name rtype entry = same_place (place entry.name) (place name) && (entry.rtype == rtype)

-- whether two entries are for one question
abbrev pub same_question : Entry → Entry → Bool
same_question x y = answers x.name x.rtype y

-- the answers with one more, unless there is one for its question
abbrev pub with_entry : Table → Entry → Table
with_entry table entry = if list_any (answers entry.name entry.rtype) table then table else table ++ entry ∷ []

-- what is found of a question: the reply of its first entry; none where that fails, or there is no entry
abbrev pub reply_of : Option Entry → Option (List ℕ)
reply_of None = None
reply_of (Some entry) = entry.reply

-- the reply to a question of class IN, or none where it fails
abbrev pub asked_of : Table → Labels → ℕ → Option (List ℕ)
asked_of table name rtype = reply_of (find (answers name rtype) table)

-- where the table is told, this is its reply to the question
abbrev pub IsReplyOf : Option Table → Labels → ℕ → List ℕ → Type 0
IsReplyOf told name rtype reply = IfSome told (λ table. asked_of table name rtype ≡ Some reply)

-- where the table is told, it has no reply to the question
abbrev pub HasNoReply : Option Table → Labels → ℕ → Type 0
HasNoReply told name rtype = IfSome told (λ table. asked_of table name rtype ≡ None)

-- what was heard so far with one answer more, where it is told
abbrev pub heard_more : Option (List Entry) → Entry → Option (List Entry)
heard_more told entry = option_map (λ heard. heard ++ entry ∷ []) told
