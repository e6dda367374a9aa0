-- What a run of the command is, by what was read.
use Rattle.std.proofs.Common.{◌≡◌, ℕ, ◌++◌, ◌<◌, ◌≤◌, List, length, Option, Some, None, Result, Ok, Err, refl, subst, length-append, arith, inl, inr}
use Rattle.std.specs.Prelude.{◌⊎◌, IfSome}
use Rattle.std.specs.Io.KnownBytes.{Consumes, IsAtEnd, Keeps}
use Rattle.std.proofs.KnownBytes.{Keeps-refl}
use Rattle.dsec_spec.specs.Records.{Record}
use Rattle.dsec_outside.specs.Limit.{limit}
use Rattle.dsec_outside.proofs.CallerLemmas.{holds-taken, line_past-append}
use Rattle.dsec_outside.specs.Statuses.{status_in}
use Rattle.dsec_outside.specs.declared.sending.Halt.{Halt}
use Rattle.dsec_outside.specs.declared.sending.Halt.TheVariants.{Memory, Write}
use Rattle.dsec_signing.specs.Command.{HasRead, HasReadAll, IsSignRun, PartFrom, RefusedAt, SentFor, SignedFrom, UnsignedFrom, nothing, refused, signed, unsigned}
use Rattle.dsec_signing.specs.Zone.{SaysSource, long, short}
use Rattle.dsec_signing.specs.Making.{AnswersSigning}
use Rattle.dsec_signing.specs.Reading.{AnswersSource}
use Rattle.dsec_signing.specs.Signed.{IsUnsigned}
use Rattle.dsec_rrsig.specs.declared.error.SigningError.{SigningError}
use Rattle.dsec_signing.specs.declared.error.Refused.{Refused}
use Rattle.dsec_signing.specs.declared.error.SourceError.{SourceError}
use Rattle.dsec_signing.specs.declared.error.SourceError.TheVariants as source_errors
use Rattle.dsec_signing.specs.declared.error.Unsigned.{Unsigned}
use Rattle.dsec_signing.specs.declared.error.Unsigned.TheVariants as unsigned_errors
use Rattle.dsec_signing.specs.declared.error.Word.TheVariants as words
use Rattle.dsec_signing.specs.declared.words.SignWords.{SignWords}

no_records : (refusal : Refused) (source : List Record) → Err refusal ≡ Ok source → ⊥
no_records refusal source e = absurd cc

-- a text with records is within the limit
pub within_by : (content : List ℕ) (said : Result (List Record) Refused) (source : List Record) → SaysSource content said → said ≡ Ok source → length content ≤ limit
within_by _ _ source (long content l) e = absurd (no_records _ source e)
within_by _ _ source (short content said l h) e = l

pub within : (content : List ℕ) (source : List Record) → SaysSource content (Ok source) → length content ≤ limit
within content source says = within_by content (Ok source) source says refl

-- past the limit the rest doesn't count
pub says-append : (content more : List ℕ) (said : Result (List Record) Refused) → limit < length content → SaysSource content said → SaysSource (content ++ more) said
says-append _ more _ l (long content past) =
    subst (λ (n : ℕ). SaysSource (content ++ more) (Err (record { line = n; word = words.Size }))) (line_past-append content more past)
    (long (content ++ more) (let n = length-append content more in omega (arith, n, past)))
says-append _ more _ l (short content said within h) = absurd (omega (arith, l, within))

refused-append : (before after : Option (List ℕ)) (content more : List ℕ) → limit < length content → RefusedAt content before after → RefusedAt (content ++ more) before after
refused-append before after content more l h = record { refused = h.refused; reads = says-append content more (Err h.refused) l h.reads; sent = h.sent }

signed-append : (said : SignWords) (before after : Option (List ℕ)) (content more : List ℕ) → limit < length content → SignedFrom said content before after → SignedFrom said (content ++ more) before after
signed-append said before after content more l h =
    record { source = h.source; reads = says-append content more (Ok h.source) l h.reads; made = h.made; is_made = h.is_made; sent = h.sent; back = h.back }

unsigned-append : (said : SignWords) (before after : Option (List ℕ)) (content more : List ℕ) → limit < length content → UnsignedFrom said content before after → UnsignedFrom said (content ++ more) before after
unsigned-append said before after content more l h = record { source = h.source; reads = says-append content more (Ok h.source) l h.reads; error = h.error; why = h.why; sent = h.sent }

sent-append : (said : SignWords) (before after : Option (List ℕ)) (content more : List ℕ) → limit < length content → SentFor said content before after → SentFor said (content ++ more) before after
sent-append said before after content more l (nothing kept) = nothing kept
sent-append said before after content more l (refused r reads sent) = refused r (says-append content more (Err r) l reads) sent
sent-append said before after content more l (unsigned source error reads why sent) = unsigned source error (says-append content more (Ok source) l reads) why sent
sent-append said before after content more l (signed source made reads is sent) = signed source made (says-append content more (Ok source) l reads) is sent

-- ---- by what was read

pub done_of : (said : SignWords) (left rest before after : Option (List ℕ)) (content : List ℕ) → Consumes left rest content → (length content ≤ limit → IsAtEnd rest) → SignedFrom said content before after
    → HasReadAll left rest (λ (all : List ℕ). SignedFrom said all before after)
done_of said left rest before after content taken whole h = record { content = content; read = taken; whole = whole (within content h.source h.reads); holds = h }

pub unsigned_of : (said : SignWords) (left rest before after : Option (List ℕ)) (content : List ℕ) → Consumes left rest content → (length content ≤ limit → IsAtEnd rest) → UnsignedFrom said content before after
    → HasReadAll left rest (λ (all : List ℕ). UnsignedFrom said all before after)
unsigned_of said left rest before after content taken whole h = record { content = content; read = taken; whole = whole (within content h.source h.reads); holds = h }

pub short_of : (said : SignWords) (left rest before after : Option (List ℕ)) (content : List ℕ) → Consumes left rest content → (length content ≤ limit → IsAtEnd rest) → Keeps before after ⊎ PartFrom said content before after
    → Keeps before after ⊎ HasReadAll left rest (λ (all : List ℕ). PartFrom said all before after)
short_of said left rest before after content taken whole (inl kept) = inl kept
short_of said left rest before after content taken whole (inr h) = inr (record { content = content; read = taken; whole = whole (within content h.source h.reads); holds = h })

pub refused_of : (left rest before after : Option (List ℕ)) (content : List ℕ) → Consumes left rest content → RefusedAt content before after → HasRead left rest (λ (all : List ℕ). RefusedAt all before after)
refused_of left rest before after content taken h = record { content = content; read = taken; holds = h }

pub sent_of : (said : SignWords) (left rest before after : Option (List ℕ)) (content : List ℕ) → Consumes left rest content → SentFor said content before after
    → HasRead left rest (λ (all : List ℕ). SentFor said all before after)
sent_of said left rest before after content taken h = record { content = content; read = taken; holds = h }

-- ---- by the whole content

pub told_signed : (said : SignWords) (left rest before after : Option (List ℕ)) (content : List ℕ) → Consumes left rest content → (length content ≤ limit → IsAtEnd rest) → SignedFrom said content before after
    → IfSome left (λ (all : List ℕ). SignedFrom said all before after)
told_signed said left rest before after content taken whole h =
    holds-taken (λ (all : List ℕ). SignedFrom said all before after) (signed-append said before after) left rest content taken whole h

pub told_unsigned : (said : SignWords) (left rest before after : Option (List ℕ)) (content : List ℕ) → Consumes left rest content → (length content ≤ limit → IsAtEnd rest) → UnsignedFrom said content before after
    → IfSome left (λ (all : List ℕ). UnsignedFrom said all before after)
told_unsigned said left rest before after content taken whole h =
    holds-taken (λ (all : List ℕ). UnsignedFrom said all before after) (unsigned-append said before after) left rest content taken whole h

pub told_refusal : (left rest before after : Option (List ℕ)) (content : List ℕ) → Consumes left rest content → (length content ≤ limit → IsAtEnd rest) → RefusedAt content before after
    → IfSome left (λ (all : List ℕ). RefusedAt all before after)
told_refusal left rest before after content taken whole h =
    holds-taken (λ (all : List ℕ). RefusedAt all before after) (refused-append before after) left rest content taken whole h

pub made_of : (said : SignWords) (left rest before after : Option (List ℕ)) (content : List ℕ) → Consumes left rest content → (length content ≤ limit → IsAtEnd rest) → SentFor said content before after
    → IfSome left (λ (all : List ℕ). SentFor said all before after)
made_of said left rest before after content taken whole h =
    holds-taken (λ (all : List ℕ). SentFor said all before after) (sent-append said before after) left rest content taken whole h

-- nothing went out where it wasn't read whole
pub made_nothing : (said : SignWords) (left sent : Option (List ℕ)) → IfSome left (λ (all : List ℕ). SentFor said all sent sent)
made_nothing said None sent = tt
made_nothing said (Some all) sent = nothing (Keeps-refl sent)

more_statuses : (status : ℕ) → (status ≡ 0) ⊎ ((status ≡ 3) ⊎ ((status ≡ 5) ⊎ ((status ≡ 6) ⊎ (status ≡ 7))))
    → (status ≡ 0) ⊎ ((status ≡ 3) ⊎ ((status ≡ 4) ⊎ ((status ≡ 5) ⊎ ((status ≡ 6) ⊎ (status ≡ 7)))))
more_statuses status (inl e) = inl e
more_statuses status (inr (inl e)) = inr (inl e)
more_statuses status (inr (inr (inl e))) = inr (inr (inr (inl e)))
more_statuses status (inr (inr (inr (inl e)))) = inr (inr (inr (inr (inl e))))
more_statuses status (inr (inr (inr (inr e)))) = inr (inr (inr (inr (inr e))))

-- what was done with the content was read
was_read : (status : ℕ) → (status ≡ 0) ⊎ ((status ≡ 3) ⊎ ((status ≡ 5) ⊎ ((status ≡ 6) ⊎ (status ≡ 7)))) → status ≡ 4 → ⊥
was_read status (inl e) four = omega (arith, e, four)
was_read status (inr (inl e)) four = omega (arith, e, four)
was_read status (inr (inr (inl e))) four = omega (arith, e, four)
was_read status (inr (inr (inr (inl e)))) four = omega (arith, e, four)
was_read status (inr (inr (inr (inr e)))) four = omega (arith, e, four)

-- what was done with the content is what the run did
pub run_of : (said : SignWords) (status : ℕ) (left rest before after : Option (List ℕ)) (content : List ℕ) → Consumes left rest content → (length content ≤ limit → IsAtEnd rest)
    → (status ≡ 0 → SignedFrom said content before after) → (status ≡ 3 → RefusedAt content before after) → (status ≡ 7 → UnsignedFrom said content before after)
    → (status ≡ 6 → Keeps before after ⊎ PartFrom said content before after) → SentFor said content before after
    → (status ≡ 0) ⊎ ((status ≡ 3) ⊎ ((status ≡ 5) ⊎ ((status ≡ 6) ⊎ (status ≡ 7)))) → IsSignRun said status left rest before after
run_of said status left rest before after content taken whole done refuses not_signed wants sent statuses = record {
  done = λ s. done_of said left rest before after content taken whole (done s);
  told = λ s. told_signed said left rest before after content taken whole (done s);
  refused = λ s. refused_of left rest before after content taken (refuses s);
  first = λ s. told_refusal left rest before after content taken whole (refuses s);
  unsigned = λ s. unsigned_of said left rest before after content taken whole (not_signed s);
  why = λ s. told_unsigned said left rest before after content taken whole (not_signed s);
  unread = λ s. absurd (was_read status statuses s);
  short = λ s. short_of said left rest before after content taken whole (wants s);
  front = inr (sent_of said left rest before after content taken sent);
  made = made_of said left rest before after content taken whole sent;
  statuses = more_statuses status statuses;
}

-- a refusal that was told is the text's
pub refused_reads : (X : Type 0) (view : X → List Record) (content : List ℕ) (error : SourceError) (r : Refused) → error ≡ source_errors.Refused r → AnswersSource view content (Err error) → SaysSource content (Err r)
refused_reads X view content error r is answers = subst (λ (e : SourceError). AnswersSource view content (Err e)) is answers

-- and one of signing is the zone's
pub unsigned_why : (X : Type 0) (view : X → List Record) (said : SignWords) (source : List Record) (error : Unsigned) (e : SigningError) → error ≡ unsigned_errors.Refused e
    → AnswersSigning view said source (Err error) → IsUnsigned said source e
unsigned_why X view said source error e is answers = subst (λ (x : Unsigned). AnswersSigning view said source (Err x)) is answers

-- at 6 memory was wanting
pub memory_at_six : {T : Type 0} (r : Result T Halt) (halt : Halt) (n : ℕ) → r ≡ Err halt → n ≡ status_in halt → n ≡ 6 → r ≡ Err Memory
memory_at_six r Memory n is at six = is
memory_at_six r Write n is at six = let five : n ≡ 5 = at in absurd (omega (arith, five, six))

-- a run that wanted memory before anything was read
pub idle_run : (said : SignWords) (left sent : Option (List ℕ)) → IsSignRun said 6 left left sent sent
idle_run said left sent = record {
  done = λ s. absurd (omega (arith, s));
  told = λ s. absurd (omega (arith, s));
  refused = λ s. absurd (omega (arith, s));
  first = λ s. absurd (omega (arith, s));
  unsigned = λ s. absurd (omega (arith, s));
  why = λ s. absurd (omega (arith, s));
  unread = λ s. Keeps-refl sent;
  short = λ s. inl (Keeps-refl sent);
  front = inl (Keeps-refl sent);
  made = made_nothing said left sent;
  statuses = inr (inr (inr (inr (inl refl))));
}

-- 2 is the status of no run
pub never_two : (said : SignWords) (status : ℕ) (left rest before after : Option (List ℕ)) → IsSignRun said status left rest before after → status ≡ 2 → ⊥
never_two said status left rest before after run e = by run.statuses
  where
    by : (status ≡ 0) ⊎ ((status ≡ 3) ⊎ ((status ≡ 4) ⊎ ((status ≡ 5) ⊎ ((status ≡ 6) ⊎ (status ≡ 7))))) → ⊥
    by (inl f) = omega (arith, e, f)
    by (inr (inl f)) = omega (arith, e, f)
    by (inr (inr (inl f))) = omega (arith, e, f)
    by (inr (inr (inr (inl f)))) = omega (arith, e, f)
    by (inr (inr (inr (inr (inl f))))) = omega (arith, e, f)
    by (inr (inr (inr (inr (inr f))))) = omega (arith, e, f)
