-- Lemmas for the top calls.
use Rattle.std.proofs.Common.{◌≡◌, ◌↔◌, ℕ, List, [], ◌∷◌, ◌<◌, ◌≤◌, length, get_or, Option, Some, None, Result, Ok, Err, IfSome, IsTrue, map, Bool, true, false, inl, inr, refl, sym, ap, ◌∙◌, subst, arith}
use Rattle.std.specs.Prelude.{◌⊎◌, nat_lt, bytes_eq}
use Rattle.std.specs.Bool.{OnFalse}
use Rattle.std.specs.Io.KnownBytes.{Consumes, IsAtEnd, Keeps}
use Rattle.std.proofs.KnownBytes.{Appends-nil, Consumes-whole, Keeps-refl}
use Rattle.std.proofs.lemmas.Bool.{ltb-false}
use Rattle.std.proofs.lemmas.Option.{same_Some}
use Rattle.std.proofs.lemmas.Slice.Eq.{bytes_eq-Decides}
use Rattle.dsec_script.specs.declared.script.Script.{Script}
use Rattle.dsec_script.specs.declared.error.Word.TheVariants as words
use Rattle.dsec_script.specs.declared.error.Refused.{Refused}
use Rattle.dsec_script.specs.declared.error.ScriptError.{ScriptError}
use Rattle.dsec_script.specs.declared.error.ScriptError.TheVariants as errors
use Rattle.dsec_script.specs.Place.{wants_memory}
use Rattle.dsec_outside.specs.Limit.{limit, line_past}
use Rattle.dsec_script.specs.Script.{script_of}
use Rattle.dsec_script.proofs.CallerLemmas.{script_of-taken}
use Rattle.dsec_spec.specs.Accepts.{Accepts}
use Rattle.dsec_answer.specs.Headline.{Answered, PartFrom, RefusedAt, Refuses, Done, Stopped, IsUsageRun, IsValidateRun, SentFor, WentOut, nothing, refused, answer}
use Rattle.dsec_answer.specs.Headline as headline
use Rattle.dsec_answer.specs.Words.{IsValidate}
use Rattle.dsec_answer.specs.Outcomes.{IsAnswer}
use Rattle.dsec_answer.specs.Sending.{NotAll}
use Rattle.dsec_signing.specs.Words.{sign_in}
use Rattle.dsec_signing.specs.declared.words.SignWords.{SignWords}

past_limit : (v : List ℕ) → nat_lt limit (length v) ≡ true → script_of v ≡ Err (errors.Refused (record { line = line_past v; word = words.Size }))
unfolding script_of
past_limit v t = rw t refl

no_refusal : (x : Script) (y : ScriptError) (read : Result Script ScriptError) → read ≡ Ok x → read ≡ Err y → ⊥
no_refusal x y read h k = cc

-- a script is within the limit
pub within : (v : List ℕ) (script : Script) → script_of v ≡ Ok script → length v ≤ limit
within v script h = by (nat_lt limit (length v)) refl
  where
    by : (t : Bool) → nat_lt limit (length v) ≡ t → length v ≤ limit
    by true t = absurd (no_refusal _ _ _ h (past_limit v t))
    by false t = ltb-false limit (length v) t

pub done_of : (accepts : Accepts) (left rest before after : Option (List ℕ)) (v : List ℕ) → Consumes left rest v → (length v ≤ limit → IsAtEnd rest) → Answered accepts v before after → Done accepts left rest before after
done_of accepts left rest before after v c e a = record { content = v; read = c; whole = e (within v a.script a.reads); answered = a }

-- what stopped after a part of the text went out
stopped_of : (accepts : Accepts) (left rest before after : Option (List ℕ)) (v : List ℕ) → Consumes left rest v → (length v ≤ limit → IsAtEnd rest)
    → Keeps before after ⊎ PartFrom accepts v before after → Keeps before after ⊎ Stopped accepts left rest before after
stopped_of accepts left rest before after v c e (inl kept) = inl kept
stopped_of accepts left rest before after v c e (inr p) = inr (record { content = v; read = c; whole = e (within v p.script p.reads); part = p })

-- where not all of a script's text went out, nothing did or a part
pub part_of : (accepts : Accepts) (content : List ℕ) (script : Script) (before after : Option (List ℕ)) → script_of content ≡ Ok script
    → (text : List ℕ) × IsAnswer accepts script text × NotAll before after text → Keeps before after ⊎ PartFrom accepts content before after
part_of accepts content script before after reads told = by told.2
  where
    by : NotAll before after told.0 → Keeps before after ⊎ PartFrom accepts content before after
    by (inl e) = inl (subst (Keeps before) (sym e) (Keeps-refl before))
    by (inr left) = inr (record { script = script; reads = reads; text = told.0; answer = told.1; rest = left.0; is_left = left.1; sent = left.2 })

pub told_answer : (accepts : Accepts) (left rest before after : Option (List ℕ)) → Done accepts left rest before after → IfSome left (λ xs. Answered accepts xs before after)
told_answer accepts left rest before after d = Consumes-whole left rest d.content (λ xs. Answered accepts xs before after) d.read d.whole d.answered

pub told_refusal : (left rest before after : Option (List ℕ)) (v : List ℕ) → Consumes left rest v → (length v ≤ limit → IsAtEnd rest) → RefusedAt v before after → IfSome left (λ xs. RefusedAt xs before after)
told_refusal None rest before after v c e r = tt
told_refusal (Some xs) rest before after v c e r =
    let s : script_of xs ≡ script_of v = script_of-taken (Some xs) rest v c e in
    record { refused = r.refused; reads = s ∙ r.reads; sent = r.sent }

-- ---- what went out, by the whole content

same_sent : (accepts : Accepts) (content all : List ℕ) (before after : Option (List ℕ)) → script_of all ≡ script_of content → SentFor accepts content before after → SentFor accepts all before after
same_sent accepts content all before after same (nothing kept) = nothing kept
same_sent accepts content all before after same (refused r reads sent) = refused r (same ∙ reads) sent
same_sent accepts content all before after same (answer script reads text answers sent) = answer script (same ∙ reads) text answers sent

-- what the octets that were read make, all of them make
pub made_of : (accepts : Accepts) (left rest before after : Option (List ℕ)) (v : List ℕ) → Consumes left rest v → (length v ≤ limit → IsAtEnd rest)
    → SentFor accepts v before after → IfSome left (λ all. SentFor accepts all before after)
made_of accepts None rest before after v c e sent = tt
made_of accepts (Some all) rest before after v c e sent =
    let same : script_of all ≡ script_of v = script_of-taken (Some all) rest v c e in
    same_sent accepts v all before after same sent

-- nothing went out where it wasn't read whole
pub made_nothing : (accepts : Accepts) (left sent : Option (List ℕ)) → IfSome left (λ all. SentFor accepts all sent sent)
made_nothing accepts None sent = tt
made_nothing accepts (Some all) sent = nothing (Keeps-refl sent)

-- ---- runs

more_statuses : (status : ℕ) → (status ≡ 0) ⊎ ((status ≡ 3) ⊎ ((status ≡ 5) ⊎ (status ≡ 6))) → (status ≡ 0) ⊎ ((status ≡ 3) ⊎ ((status ≡ 4) ⊎ ((status ≡ 5) ⊎ (status ≡ 6))))
more_statuses status (inl e) = inl e
more_statuses status (inr (inl e)) = inr (inl e)
more_statuses status (inr (inr (inl e))) = inr (inr (inr (inl e)))
more_statuses status (inr (inr (inr e))) = inr (inr (inr (inr e)))

-- what was done with the content was read
was_read : (status : ℕ) → (status ≡ 0) ⊎ ((status ≡ 3) ⊎ ((status ≡ 5) ⊎ (status ≡ 6))) → status ≡ 4 → ⊥
was_read status (inl e) four = omega (arith, e, four)
was_read status (inr (inl e)) four = omega (arith, e, four)
was_read status (inr (inr (inl e))) four = omega (arith, e, four)
was_read status (inr (inr (inr e))) four = omega (arith, e, four)

-- what was done with the content is what the run did
pub run_of : (accepts : Accepts) (status : ℕ) (left rest before after : Option (List ℕ)) (v : List ℕ) → Consumes left rest v → (length v ≤ limit → IsAtEnd rest)
    → (status ≡ 0 → Answered accepts v before after) → (status ≡ 3 → RefusedAt v before after)
    → (status ≡ 6 → Keeps before after ⊎ PartFrom accepts v before after) → SentFor accepts v before after
    → (status ≡ 0) ⊎ ((status ≡ 3) ⊎ ((status ≡ 5) ⊎ (status ≡ 6))) → IsValidateRun accepts status left rest before after
run_of accepts status left rest before after v c e answers refuses short sent statuses = record {
  done = λ s. done_of accepts left rest before after v c e (answers s);
  told = λ s. told_answer accepts left rest before after (done_of accepts left rest before after v c e (answers s));
  refused = λ s. record { content = v; read = c; refused = refuses s };
  first = λ s. told_refusal left rest before after v c e (refuses s);
  unread = λ s. absurd (was_read status statuses s);
  short = λ s. stopped_of accepts left rest before after v c e (short s);
  front = headline.script v c sent;
  made = made_of accepts left rest before after v c e sent;
  statuses = more_statuses status statuses;
}

-- a run that stopped before anything went out
pub idle_run : (accepts : Accepts) (status : ℕ) (left rest sent : Option (List ℕ)) → (status ≡ 4) ⊎ (status ≡ 6) → IsValidateRun accepts status left rest sent sent
idle_run accepts status left rest sent (inl e) = record {
  done = λ s. absurd (omega (arith, s, e));
  told = λ s. absurd (omega (arith, s, e));
  refused = λ s. absurd (omega (arith, s, e));
  first = λ s. absurd (omega (arith, s, e));
  unread = λ s. Keeps-refl sent;
  short = λ s. inl (Keeps-refl sent);
  front = headline.nothing (Keeps-refl sent);
  made = made_nothing accepts left sent;
  statuses = inr (inr (inl e));
}
idle_run accepts status left rest sent (inr e) = record {
  done = λ s. absurd (omega (arith, s, e));
  told = λ s. absurd (omega (arith, s, e));
  refused = λ s. absurd (omega (arith, s, e));
  first = λ s. absurd (omega (arith, s, e));
  unread = λ s. Keeps-refl sent;
  short = λ s. inl (Keeps-refl sent);
  front = headline.nothing (Keeps-refl sent);
  made = made_nothing accepts left sent;
  statuses = inr (inr (inr (inr e)));
}

-- the words of `validate` are those of no other command
pub no_sign : (words : List (List ℕ)) (said : SignWords) → IsValidate words → sign_in words ≡ Some said → ⊥
no_sign words said valid e = none_said said (sym (ap sign_in valid) ∙ e)
  where
    none_said : (said : SignWords) → None ≡ Some said → ⊥
    none_said said e = cc

pub not_both : {A : Type 0} (o : Option A) (x : A) → o ≡ None → o ≡ Some x → ⊥
not_both o x none some = let clash : None ≡ Some x = sym none ∙ some in cc

pub same_words : (said other : SignWords) (o : Option SignWords) → o ≡ Some said → o ≡ Some other → said ≡ other
same_words said other o a b = same_Some said other (sym a ∙ b)

-- 2 is the status of no run of `validate`
pub never_two : (accepts : Accepts) (status : ℕ) (left rest before after : Option (List ℕ)) → IsValidateRun accepts status left rest before after → status ≡ 2 → ⊥
never_two accepts status left rest before after run e = by run.statuses
  where
    by : (status ≡ 0) ⊎ ((status ≡ 3) ⊎ ((status ≡ 4) ⊎ ((status ≡ 5) ⊎ (status ≡ 6)))) → ⊥
    by (inl f) = omega (arith, e, f)
    by (inr (inl f)) = omega (arith, e, f)
    by (inr (inr (inl f))) = omega (arith, e, f)
    by (inr (inr (inr (inl f)))) = omega (arith, e, f)
    by (inr (inr (inr (inr f)))) = omega (arith, e, f)

-- no memory to read the words
pub no_usage : (sent : Option (List ℕ)) → IsUsageRun 6 sent sent
no_usage sent = record { told = λ s. absurd (omega (arith, s)); short = λ s. Keeps-refl sent; front = (0, Appends-nil sent); statuses = inr (inr refl) }

-- a refusal that was told is the script's
pub refused_reads : (e : ScriptError) (r : Refused) (read : Result Script ScriptError) → e ≡ errors.Refused r → OnFalse (wants_memory e) (read ≡ Err e) → read ≡ Err (errors.Refused r)
refused_reads e r read is f = subst (λ (x : ScriptError). OnFalse (wants_memory x) (read ≡ Err x)) is f

pub one_word : {X : Type 0} (view : X → List ℕ) (words : List X) (d : X) → 1 ≤ length words → length words < 2 → map view words ≡ view (get_or words 0 d) ∷ []
one_word view [] d l h = absurd (omega (arith, l))
one_word view (x ∷ []) d l h = refl
one_word view (x ∷ y ∷ zs) d l h = absurd (omega (arith, h))

pub is_word : (words : List (List ℕ)) (word text : List ℕ) (r : Bool) → words ≡ word ∷ [] → r ≡ bytes_eq word text → IsTrue r ↔ (words ≡ text ∷ [])
is_word words word text r ws h =
    let d = bytes_eq-Decides word text in
    (λ t. ws ∙ ap (λ w. w ∷ []) (d.0 (sym h ∙ t)), λ e. h ∙ d.1 (head_same (sym ws ∙ e)))
  where
    head_same : word ∷ [] ≡ text ∷ [] → word ≡ text
    head_same e = cc
