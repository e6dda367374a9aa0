-- A message read: its sections, and its groups with CNAME records moved.
use Rattle.std.proofs.Common.{◌≡◌, ℕ, ◌+◌, ◌<◌, Bool, true, false, cond, List, [], ◌∷◌, ◌++◌, length, take, get_or, Option, Some, None, refl, sym, ap, ◌∙◌, append_assoc, subst}
use Rattle.std.proofs.lemmas.List.{take_more}
use Rattle.std.specs.Prelude.{unwrap_or, Result, Ok, Err}
use Rattle.std.specs.Bool.{OnFalse}
use Rattle.std.specs.Option.{option_map}
use Rattle.dsec_spec.specs.Reading.{◌>>=◌}
use Rattle.dsec_spec.specs.Messages.{Question, questions_of, answers_of, authorities_of}
use Rattle.dsec_spec.specs.Records.{Record}
use Rattle.dsec_spec.specs.Groups.{Group, groups_of}
use Rattle.dsec_spec.specs.Redirection.{has_too_many, moved, staying_from}
use Rattle.dsec_nodes.specs.Alone.{Refusal, sections_of}
use Rattle.dsec_course.specs.Course.{Waiting, to_begin, Course}
use Rattle.dsec_course.specs.Advancing.{beginning, begun, begun_by, begun_with}
use Rattle.dsec_core.specs.Progress.{MovesOrEnds, OpensWith, first_wait, read_as}
use Rattle.dsec_cause.specs.declared.cause.Cause.{Cause}
use Rattle.dsec_cause.specs.declared.cause.Cause.TheVariants.{TooManyUnsignedCnames}
use Rattle.dsec_course.proofs.BeginningLaws.{unreadable_refused}
use Rattle.dsec_found.specs.Errors.{error_of, wants_memory}
use Rattle.dsec_group.specs.Reading.{groups_and_place}
use Rattle.dsec_group.proofs.ReadingLaws.{no_groups}
use Rattle.dsec_message.specs.MessageSections as wire
use Rattle.dsec_wire.specs.Errors.{wants_memory as read_wants_memory}
use Rattle.dsec_wire.specs.declared.error.MessageError.{MessageError}
use Rattle.dsec_wire.specs.declared.error.MessageError.TheVariants.{NoMemory, ParseError}
use Rattle.dsec_message.specs.declared.sections.Sections.{Sections}

-- the three sections as they are read, by name
abbrev pub parts : Sections → List Question × List Record × List Record
parts s = (s.question, s.answer, s.authority)

-- the sections, read from the first to the last
abbrev in_order : Option (List Question × ℕ) → Option (List Record × ℕ) → Option (List Record × ℕ) → Option (Sections × ℕ)
in_order q a r = do
  questions ← q
  answers ← a
  authorities ← r
  Some (record { question = questions.0; answer = answers.0; authority = authorities.0 }, authorities.1)

-- the same, without the place after them
abbrev by_name : Option (Sections × ℕ) → Option Sections
by_name read = do
  sections ← read
  Some sections.0

-- the sections, read from the last to the first
abbrev backwards : Option (List Question × ℕ) → Option (List Record × ℕ) → Option (List Record × ℕ) → Option (List Question × List Record × List Record)
backwards q a r = do
  authorities ← r
  answers ← a
  questions ← q
  Some (questions.0, answers.0, authorities.0)

-- whichever section is read first
pub sections_same : (message : List ℕ) → sections_of message ≡ option_map parts (wire.sections_of message)
sections_same message = by (questions_of message) (answers_of message) (authorities_of message)
  where
    by : (q : Option (List Question × ℕ)) (a r : Option (List Record × ℕ)) → backwards q a r ≡ option_map parts (by_name (in_order q a r))
    by None None None = refl
    by None None (Some r) = refl
    by None (Some a) None = refl
    by None (Some a) (Some r) = refl
    by (Some q) None None = refl
    by (Some q) None (Some r) = refl
    by (Some q) (Some a) None = refl
    by (Some q) (Some a) (Some r) = refl

-- a message read is what it begins with
pub begun_read : (anchors : List Record) (most : ℕ) (message octets : List ℕ) (s : Sections) (c : Course) → octets ≡ message → wire.sections_of message ≡ Some s
    → Ok c ≡ begun_by anchors most octets (Some (parts s)) → read_as (begun anchors most message) ≡ Ok c
begun_read anchors most message octets s c same read h =
    ap read_as (ap (begun_by anchors most message) (sections_same message ∙ ap (option_map parts) read)
    ∙ (ap (λ (m : List ℕ). begun_by anchors most m (Some (parts s))) (sym same) ∙ sym h))

-- a message that can't be read
pub refused : (anchors : List Record) (most : ℕ) (message : List ℕ) (e : MessageError) → OnFalse (read_wants_memory e) (groups_and_place message ≡ None) → OnFalse (wants_memory (error_of e)) (read_as (begun anchors most message) ≡ Err (error_of e))
refused anchors most message NoMemory h = tt
refused anchors most message ParseError h =
    let none : wire.sections_of message ≡ None = ap by_name (no_groups message h) in
    ap read_as (unreadable_refused anchors most message (sections_same message ∙ ap (option_map parts) none))

-- with the code's word for a refusal it is the same where there is none
pub read_so : (r : Result Course Refusal) (c : Course) → read_as r ≡ Ok c → r ≡ Ok c
read_so (Ok d) c e = let same : d ≡ c = cc in ap (λ (x : Course). Ok x) same
read_so (Err refusal) c e = absurd cc

-- the same by anchors and a limit that are these
pub begun_here : (anchors its : List Record) (limit most : ℕ) (message : List ℕ) (c : Course) → its ≡ anchors → most ≡ limit
    → read_as (begun its most message) ≡ Ok c → begun anchors limit message ≡ Ok c
begun_here anchors its limit most message c same bound e =
    read_so (begun anchors limit message) c
    (subst (λ (x : List Record). read_as (begun x limit message) ≡ Ok c) same (subst (λ (n : ℕ). read_as (begun its n message) ≡ Ok c) bound e))

-- groups are moved, or there are too many to move
pub moves_or_ends : (anchors : List Record) (most : ℕ) (before after : List Group) (cause : Option Cause)
    → cause ≡ cond (has_too_many most before) (Some TooManyUnsignedCnames) None → after ≡ unwrap_or (moved anchors most before) before
    → MovesOrEnds anchors most before after cause
moves_or_ends anchors most before after cause c m =
    subst (MovesOrEnds anchors most before after) (sym c) (by (has_too_many most before) refl m)
  where
    begins : (o : Option (List Group)) → moved anchors most before ≡ o → (message : List ℕ) (s : List Question × List Record × List Record) → groups_of s.1 ≡ before
        → begun_by anchors most message (Some s) ≡ Ok (begun_with most message s.0 o (groups_of s.2))
    begins o f message s same =
        ap (λ (x : Option (List Group)). Ok (begun_with most message s.0 x (groups_of s.2))) (ap (moved anchors most) same ∙ f)

    moved_if : (b : Bool) → has_too_many most before ≡ b → moved anchors most before ≡ cond b None (Some (staying_from anchors before 0 before))
    moved_if b f = ap (λ (x : Bool). cond x None (Some (staying_from anchors before 0 before))) f

    by : (b : Bool) → has_too_many most before ≡ b → after ≡ unwrap_or (moved anchors most before) before → MovesOrEnds anchors most before after (cond b (Some TooManyUnsignedCnames) None)
    by true f h = begins None (moved_if true f)
    by false f h =
        begins (Some after) (moved_if false f ∙ ap (λ (gs : List Group). Some gs) (sym (h ∙ ap (λ (o : Option (List Group)). unwrap_or o before) (moved_if false f))))

-- a message that ends at its beginning
pub ends_so : (anchors : List Record) (most : ℕ) (before after authorities : List Group) (cause : Cause) (left : List Group) → MovesOrEnds anchors most before after (Some cause)
    → left ≡ [] → OpensWith anchors most before authorities 0 left (first_wait (Some cause))
ends_so anchors most before after authorities cause left h ls = λ message s is others.
    h message s is ∙ ap (λ (l : List Group). Ok (beginning most message s.0 0 l (first_wait (Some cause)))) (sym ls)

-- one that begins
pub begins_so : (anchors : List Record) (most : ℕ) (before after authorities : List Group) (count : ℕ) (left : List Group) → MovesOrEnds anchors most before after None
    → count ≡ length after → left ≡ after ++ authorities → OpensWith anchors most before authorities count left to_begin
begins_so anchors most before after authorities count left h ns ls = λ message s is others.
    h message s is ∙ ap (λ (c : Course). Ok c)
    (ap (λ (l : List Group). beginning most message s.0 (length after) l to_begin) (ap (λ (gs : List Group). after ++ gs) others ∙ sym ls)
    ∙ ap (λ (n : ℕ). beginning most message s.0 n left to_begin) (sym ns))

-- the beginning by what it opens with
pub opens_so : (anchors : List Record) (most : ℕ) (octets : List ℕ) (s : List Question × List Record × List Record) (answers authorities : List Group) (questions : List Question)
    (count : ℕ) (left : List Group) (waits : Waiting) (c : Course) → OpensWith anchors most answers authorities count left waits → answers ≡ groups_of s.1 → authorities ≡ groups_of s.2
    → questions ≡ s.0 → c ≡ beginning most octets questions count left waits → Ok c ≡ begun_by anchors most octets (Some s)
opens_so anchors most octets s answers authorities questions count left waits c h is others qs same =
    ap (λ (x : Course). Ok x) (same ∙ ap (λ (q : List Question). beginning most octets q count left waits) qs) ∙ sym (h octets s (sym is) (sym others))

-- copies of groups pushed one after the other
pub pushed_one : (was now more groups : List Group) (i : ℕ) (item copy : Group) → now ≡ was ++ take i groups → more ≡ now ++ copy ∷ [] → copy ≡ item → i < length groups
    → item ≡ get_or groups i item → more ≡ was ++ take (i + 1) groups
pushed_one was now more groups i item copy so_far pushed same within is =
    pushed ∙ (ap (λ (xs : List Group). xs ++ copy ∷ []) so_far
    ∙ (append_assoc was (take i groups) (copy ∷ []) ∙ ap (λ (xs : List Group). was ++ xs) (ap (λ (g : Group). take i groups ++ g ∷ []) (same ∙ is) ∙ sym (take_more groups i item within))))
