-- What `run` promises.
use Rattle.std.specs.Prelude.{◌≡◌, ◌≢◌, ◌⊎◌, ℕ, List, [], Option, Ok, Err, IfSome}
use Rattle.std.specs.Io.KnownBytes.{Appends, Consumes, IsAtEnd, Keeps}
use Rattle.dsec_spec.specs.Accepts.{Accepts}
use Rattle.dsec_spec.specs.Outside.{SentFront}
use Rattle.dsec_outside.specs.Sending.{SentBut}
use Rattle.dsec_script.specs.declared.error.Refused.{Refused}
use Rattle.dsec_script.specs.declared.error.ScriptError.TheVariants as errors
use Rattle.dsec_script.specs.declared.script.Script.{Script}
use Rattle.dsec_script.specs.Script.{script_of}
use Rattle.dsec_answer.specs.Outcomes.{IsAnswer}
use Rattle.dsec_answer.specs.Words.{usage as usage_text, refused_text}

-- the content is a script, and the text of the outcomes of its messages went out
pub record Answered (accepts : Accepts) (content : List ℕ) (before after : Option (List ℕ)) : Type 0 where
  pub script : Script
  pub reads : script_of content ≡ Ok script
  pub text : List ℕ
  pub answer : IsAnswer accepts script text
  pub sent : Appends before after text

-- the content is a script, and the text of the outcomes of its messages went out but for a rest that isn't empty
pub record PartFrom (accepts : Accepts) (content : List ℕ) (before after : Option (List ℕ)) : Type 0 where
  pub script : Script
  pub reads : script_of content ≡ Ok script
  pub text : List ℕ
  pub answer : IsAnswer accepts script text
  pub rest : List ℕ
  pub is_left : rest ≢ []
  pub sent : SentBut before after text rest

-- the content is refused, and its first refused line was named
pub record RefusedAt (content : List ℕ) (before after : Option (List ℕ)) : Type 0 where
  pub refused : Refused
  pub reads : script_of content ≡ Err (errors.Refused refused)
  pub sent : Appends before after (refused_text refused)

-- status 0: the source was read to its end, and what it had was answered
pub record Done (accepts : Accepts) (left rest before after : Option (List ℕ)) : Type 0 where
  pub content : List ℕ
  pub read : Consumes left rest content
  pub whole : IsAtEnd rest
  pub answered : Answered accepts content before after

-- status 6 where something went out: the source was read to its end, and of the text of what it had a part went out, and not all
pub record Stopped (accepts : Accepts) (left rest before after : Option (List ℕ)) : Type 0 where
  pub content : List ℕ
  pub read : Consumes left rest content
  pub whole : IsAtEnd rest
  pub part : PartFrom accepts content before after

-- status 3: what was read is refused
pub record Refuses (left rest before after : Option (List ℕ)) : Type 0 where
  pub content : List ℕ
  pub read : Consumes left rest content
  pub refused : RefusedAt content before after

-- of some content, this went out: nothing, or a front of the line that names the refused one, or of the text of the outcomes
pub data SentFor (accepts : Accepts) (content : List ℕ) (before after : Option (List ℕ)) : Type 0 where
  nothing : Keeps before after → SentFor accepts content before after
  refused : (r : Refused) → script_of content ≡ Err (errors.Refused r) → SentFront before after (refused_text r) → SentFor accepts content before after
  answer : (script : Script) → script_of content ≡ Ok script → (text : List ℕ) → IsAnswer accepts script text → SentFront before after text → SentFor accepts content before after

-- the same by what was read: nothing went out, or a front of what the octets make that were read
pub data WentOut (accepts : Accepts) (left rest before after : Option (List ℕ)) : Type 0 where
  nothing : Keeps before after → WentOut accepts left rest before after
  script : (content : List ℕ) → Consumes left rest content → SentFor accepts content before after → WentOut accepts left rest before after

-- A run of `validate` ended with the status. 0 and 3 are said twice: of what was read, and, where the source tells its octets, of its whole
-- content. At 4 nothing went out, and at 6 nothing, or a part of the outcomes' text, and never all of it. At any status nothing went out, or a
-- front of what the content makes.
pub record IsValidateRun (accepts : Accepts) (status : ℕ) (left rest before after : Option (List ℕ)) : Type 0 where
  pub done : status ≡ 0 → Done accepts left rest before after
  pub told : status ≡ 0 → IfSome left (λ content. Answered accepts content before after)
  pub refused : status ≡ 3 → Refuses left rest before after
  pub first : status ≡ 3 → IfSome left (λ content. RefusedAt content before after)
  pub unread : status ≡ 4 → Keeps before after
  pub short : status ≡ 6 → Keeps before after ⊎ Stopped accepts left rest before after
  pub front : WentOut accepts left rest before after
  pub made : IfSome left (λ content. SentFor accepts content before after)
  pub statuses : (status ≡ 0) ⊎ ((status ≡ 3) ⊎ ((status ≡ 4) ⊎ ((status ≡ 5) ⊎ (status ≡ 6))))

-- Words that name no command were answered with this status: by the usage, or by a front of it, and at 6 by nothing.
pub record IsUsageRun (status : ℕ) (before after : Option (List ℕ)) : Type 0 where
  pub told : status ≡ 2 → Appends before after usage_text
  pub short : status ≡ 6 → Keeps before after
  pub front : SentFront before after usage_text
  pub statuses : (status ≡ 2) ⊎ ((status ≡ 5) ⊎ (status ≡ 6))
