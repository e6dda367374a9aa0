-- What the outcome of a message is, by the call that judged it.
use Rattle.std.proofs.Common.{◌≡◌, ℕ, ◌-◌, ◌<◌, ◌≤◌, Bool, true, false, List, [], ◌∷◌, ◌++◌, append-nil, Some, Result, Ok, Err, IfOk, length, drop, None, inl, inr, refl, sym, ap, ◌∙◌, subst, arith}
use Rattle.std.specs.Prelude.{nat_lt}
use Rattle.std.proofs.lemmas.Bool.{le-ltb, lt-ltb, ltb-true, ltb-false, cond-true, cond-false}
use Rattle.std.proofs.lemmas.List.{length-drop}
use Rattle.std.proofs.lemmas.Option.{same_Some}
use Rattle.dsec_spec.specs.Reading.{u16_in, u16_at}
use Rattle.dsec_spec.specs.Messages.{header_of, rcode_of, additionals_of}
use Rattle.dsec_spec.specs.Accepts.{Accepts}
use Rattle.dsec_spec.specs.Names.{Labels}
use Rattle.dsec_spec.specs.Outside.{Table}
use Rattle.dsec_spec.specs.Records.{Record}
use Rattle.dsec_spec.proofs.ReadingLemmas.{from_bind}
use Rattle.dsec_nodes.specs.World.{World, Replies}
use Rattle.dsec_nodes.specs.Nodes.{Node}
use Rattle.dsec_nodes.specs.Outcomes as outcomes
use Rattle.dsec_nodes.specs.SoundOutcomes.{IsJustified}
use Rattle.dsec_nodes.specs.Alone.{Refusal, alone}
use Rattle.dsec_plain.specs.PlainAnswers.{IsPlainAnswer}
use Rattle.dsec_plain.specs.Coming.{IsSecureBy}
use Rattle.dsec_plain.proofs.Completeness.{complete}
use Rattle.dsec_node.specs.Caches.{Held, held_in}
use Rattle.dsec_node.specs.Configs.{Settings, default_settings}
use Rattle.dsec_rewrite.specs.declared.error.RewriteError.TheVariants as rewriting
use Rattle.dsec_found.specs.declared.error.Error.{Error}
use Rattle.dsec_found.specs.declared.error.Error.TheVariants as errors
use Rattle.dsec_context.specs.Verdicts.{Verdict}
use Rattle.dsec_context.specs.Outside.{Outside, replies_of, HoldsTable}
use Rattle.dsec_context.specs.Calls.{most_questions}
use Rattle.dsec_context.specs.Handling.{IsByTable, SaysOf, outcome_in}
use Rattle.dsec_context.specs.Leaving.{handed_alone}
use Rattle.dsec_context.specs.Setting.{world_at}
use Rattle.dsec_context.specs.Writing.{CannotBeRewritten}
use Rattle.dsec_context.proofs.AloneLaws.{ComesAlone, an_outcome, a_refusal, cannot_read, too_long, comes_alone}
use Rattle.dsec_script.specs.declared.items.Item.{Item}
use Rattle.dsec_answer.specs.declared.outcome.Unjudged.TheVariants.{ShortMessage, FormError, ParseError, PushError}
use Rattle.dsec_answer.specs.Told.{CanBeTold, Outcome, told_of}
use Rattle.dsec_answer.specs.Asked.{WereAsked, WerePut, HoldsAmong}
use Rattle.dsec_answer.specs.Outcomes.{told_by, without_questions, world_of_script, outcome_of, IsSecureOutcome, IsOutcome}
use Rattle.dsec_answer.specs.Sending.{ComesOver}
use Rattle.dsec_answer.proofs.AskedLaws.{none_put}

-- a number of two octets takes two octets
two_octets : (xs : List ℕ) (n : ℕ) → u16_in xs ≡ Some n → 2 ≤ length xs
two_octets [] n e = absurd cc
two_octets (x ∷ []) n e = absurd cc
two_octets (x ∷ y ∷ xs) n e = omega arith

-- a message with an rcode has a header
has_header : (message : List ℕ) (rcode : ℕ) → rcode_of message ≡ Some rcode → 12 ≤ length message
has_header message rcode e =
    let header = from_bind (header_of message) _ rcode e in
    let a = from_bind (u16_at message 0) _ header.0 header.1 in
    let b = from_bind (u16_at message 2) _ header.0 a.2 in
    let c = from_bind (u16_at message 4) _ header.0 b.2 in
    let d = from_bind (u16_at message 6) _ header.0 c.2 in
    let f = from_bind (u16_at message 8) _ header.0 d.2 in
    let g = from_bind (u16_at message 10) _ header.0 f.2 in
    let two : 2 ≤ length (drop 10 message) = two_octets (drop 10 message) g.0 g.1 in
    let left : length (drop 10 message) ≡ length message - 10 = length-drop 10 message in
    omega (arith, two, left)

-- a message with a header comes to what the recursion answers
pub with_header : (accepts : Accepts) (anchors : List Record) (table : Table) (seconds : ℕ) (octets : List ℕ) → 12 ≤ length octets
    → outcome_of accepts anchors table seconds octets
    ≡ told_by (handed_alone (world_of_script accepts anchors seconds) default_settings.max_cname_dname (replies_of table) octets).0
with_header accepts anchors table seconds octets long =
    cond-false (nat_lt (length octets) 12) (Some (Err ShortMessage)) (told_by (handed_alone (world_of_script accepts anchors seconds) default_settings.max_cname_dname (replies_of table) octets).0)
    (le-ltb (length octets) 12 long)

-- an outcome that comes to Secure is so; or the message can't be rewritten
told_secure : (anchors : List Record) (o : outcomes.Outcome) (message : List ℕ) (outcome : Outcome) → Some (without_questions outcome) ≡ Some (Ok o) → o.state ≡ outcomes.secure
    → IsSecureOutcome anchors message outcome
told_secure anchors o message (Ok v) e s = let same : v.outcome ≡ o = cc in ap (λ (x : outcomes.Outcome). x.state) same ∙ s
told_secure anchors o message (Err why) e s = absurd cc

told_unread : (anchors : List Record) (message : List ℕ) (outcome : Outcome) → Some (without_questions outcome) ≡ Some (Err ParseError) → additionals_of message ≡ None
    → IsSecureOutcome anchors message outcome
told_unread anchors message (Ok v) e c = absurd cc
told_unread anchors message (Err ParseError) e c = c
told_unread anchors message (Err PushError) e c = absurd cc
told_unread anchors message (Err FormError) e c = absurd cc
told_unread anchors message (Err ShortMessage) e c = absurd cc

told_long : (anchors : List Record) (message : List ℕ) (outcome : Outcome) → Some (without_questions outcome) ≡ Some (Err PushError)
    → CannotBeRewritten anchors default_settings.max_cname_dname message rewriting.PushError → IsSecureOutcome anchors message outcome
told_long anchors message (Ok v) e c = absurd cc
told_long anchors message (Err ParseError) e c = absurd cc
told_long anchors message (Err PushError) e c = c
told_long anchors message (Err FormError) e c = absurd cc
told_long anchors message (Err ShortMessage) e c = absurd cc

-- what is so of an outcome makes it the message's; an ordinary reply is then Secure, if it can be rewritten
pub is_outcome : (accepts : Accepts) (anchors : List Record) (table : Table) (kept puts : List Node) (item : Item) (outcome : Outcome)
    → outcome_of accepts anchors table item.seconds item.octets ≡ Some (without_questions outcome)
    → IfOk outcome (λ v. IsJustified (world_of_script accepts anchors item.seconds) default_settings.max_cname_dname item.octets v.outcome v.outcome.state)
    → IfOk outcome (λ v. v.questions ≤ most_questions anchors default_settings.max_cname_dname item.octets)
    → IfOk outcome (λ v. WereAsked (world_of_script accepts anchors item.seconds) default_settings.max_cname_dname item.octets (replies_of table) kept v.outcome v.questions)
    → WerePut (world_of_script accepts anchors item.seconds) default_settings.max_cname_dname item.octets (replies_of table) kept puts
    → IsOutcome accepts anchors table kept puts item outcome
is_outcome accepts anchors table kept puts item outcome e j f a p = record { exact = e; sound = j; complete = secure_by; few = f; asked = a; put = p }
  where
    w : World
    w = world_of_script accepts anchors item.seconds

    most : ℕ
    most = default_settings.max_cname_dname

    secure_by : IsPlainAnswer w (replies_of table) item.octets → IsSecureOutcome anchors item.octets outcome
    secure_by a = by (comes_alone w most (replies_of table) item.octets)
      where
        so : IsSecureBy w most (replies_of table) item.octets a.group
        so = complete w most (replies_of table) item.octets a (omega arith)

        told : Some (without_questions outcome) ≡ told_by (handed_alone w most (replies_of table) item.octets).0
        told = sym e ∙ with_header accepts anchors table item.seconds item.octets (has_header item.octets 0 a.no_error)

        same : (o : outcomes.Outcome) (r : Result outcomes.Outcome Refusal) → r ≡ Ok o → r ≡ Ok so.outcome → o ≡ so.outcome
        same o r x y = cc

        not_refused : (x : Refusal) (r : Result outcomes.Outcome Refusal) → r ≡ Err x → r ≡ Ok so.outcome → ⊥
        not_refused x r y z = cc

        by : ComesAlone w most (replies_of table) item.octets → IsSecureOutcome anchors item.octets outcome
        by (an_outcome o c h) = told_secure anchors o item.octets outcome (told ∙ ap told_by h)
            (ap (λ (x : outcomes.Outcome). x.state) (same o (alone w most (replies_of table) item.octets) c so.comes_to) ∙ so.is_secure)
        by (a_refusal x c h) = absurd (not_refused x (alone w most (replies_of table) item.octets) c so.comes_to)
        by (cannot_read c h) = told_unread anchors item.octets outcome (told ∙ ap told_by h) c
        by (too_long c h) = told_long anchors item.octets outcome (told ∙ ap told_by h) c

-- a message that was judged over nodes of the table, held before and afterwards
pub record IsItemJudged (accepts : Accepts) (anchors : List Record) (table : Table) (item : Item) (held now : Held) (answer : Result Verdict Error) : Type 0 where
  pub outcome : (kept : List Node) → HoldsAmong kept held → (outcome : Outcome) → told_of answer ≡ Some outcome → ComesOver accepts anchors table kept item outcome now
  pub holds : HoldsTable (world_of_script accepts anchors item.seconds) (replies_of table) (Some now)

-- what is told of an answer is what is told of it without its questions
told_same : (answer : Result Verdict Error) (outcome : Outcome) → told_of answer ≡ Some outcome → told_by (outcome_in answer) ≡ Some (without_questions outcome)
told_same answer outcome e = by answer e
  where
    of_some : (x : Outcome) → Some x ≡ Some outcome → Some (without_questions x) ≡ Some (without_questions outcome)
    of_some x f = ap (λ (y : Outcome). Some (without_questions y)) (same_Some x outcome f)

    by : (a : Result Verdict Error) → told_of a ≡ Some outcome → told_by (outcome_in a) ≡ Some (without_questions outcome)
    by (Ok v) f = of_some (Ok v) f
    by (Err errors.FormError) f = of_some (Err FormError) f
    by (Err errors.ParseError) f = of_some (Err ParseError) f
    by (Err errors.PushError) f = of_some (Err PushError) f
    by (Err errors.NoMemory) f = absurd cc
    by (Err (errors.InplaceError x)) f = absurd cc
    by (Err errors.OctetsConversion) f = absurd cc
    by (Err errors.PushNameError) f = absurd cc
    by (Err errors.ReadError) f = absurd cc
    by (Err errors.ShortMessage) f = absurd cc

-- what holds of an answer's verdict holds of what is told
told_verdict : (Holds : Verdict → Type 0) (answer : Result Verdict Error) (outcome : Outcome) → told_of answer ≡ Some outcome
    → IfOk answer (λ v. Holds v) → IfOk outcome (λ v. Holds v)
told_verdict Holds (Ok v) outcome e h = subst (λ (x : Outcome). IfOk x (λ v. Holds v)) (same_Some (Ok v) outcome e) h
told_verdict Holds (Err errors.FormError) outcome e h = subst (λ (x : Outcome). IfOk x (λ v. Holds v)) (same_Some (Err FormError) outcome e) tt
told_verdict Holds (Err errors.ParseError) outcome e h = subst (λ (x : Outcome). IfOk x (λ v. Holds v)) (same_Some (Err ParseError) outcome e) tt
told_verdict Holds (Err errors.PushError) outcome e h = subst (λ (x : Outcome). IfOk x (λ v. Holds v)) (same_Some (Err PushError) outcome e) tt
told_verdict Holds (Err errors.NoMemory) outcome e h = absurd cc
told_verdict Holds (Err (errors.InplaceError x)) outcome e h = absurd cc
told_verdict Holds (Err errors.OctetsConversion) outcome e h = absurd cc
told_verdict Holds (Err errors.PushNameError) outcome e h = absurd cc
told_verdict Holds (Err errors.ReadError) outcome e h = absurd cc
told_verdict Holds (Err errors.ShortMessage) outcome e h = absurd cc

-- an answer that says of the message what it is can be told
pub says_told : (anchors : List Record) (most : ℕ) (message : List ℕ) (answer : Result Verdict Error) → SaysOf anchors most message answer → CanBeTold answer
says_told anchors most message (Ok v) s = tt
says_told anchors most message (Err errors.FormError) s = tt
says_told anchors most message (Err errors.ParseError) s = tt
says_told anchors most message (Err errors.PushError) s = tt
says_told anchors most message (Err errors.NoMemory) s = tt
says_told anchors most message (Err (errors.InplaceError x)) s = absurd s
says_told anchors most message (Err errors.OctetsConversion) s = absurd s
says_told anchors most message (Err errors.PushNameError) s = absurd s
says_told anchors most message (Err errors.ReadError) s = absurd s
says_told anchors most message (Err errors.ShortMessage) s = absurd s

-- what a call says of a message over nodes of the table, held before and afterwards
pub record IsItemHandled (w : World) (most : ℕ) (message : List ℕ) (table : Table) (held : Held) (after : Outside) (now : Held) (answer : Result Verdict Error) (left : List ℕ) : Type 0 where
  pub by_table : IsByTable w most message after answer left (replies_of table)
  pub sound : IfOk answer (λ v. IsJustified w most message v.outcome v.outcome.state)
  pub few : IfOk answer (λ v. v.questions ≤ most_questions w.anchors most message)
  pub asked : (kept : List Node) → HoldsAmong kept held → IfOk answer (λ v. WereAsked w most message (replies_of table) kept v.outcome v.questions)
  pub put : (kept : List Node) → HoldsAmong kept held → (puts : List Node) × WerePut w most message (replies_of table) kept puts × HoldsAmong (kept ++ puts) now
  pub now_is : after.held ≡ Some now

pub item_judged : (accepts : Accepts) (anchors : List Record) (config : Settings) (table : Table) (item : Item) (message left : List ℕ) (held : Held) (after : Outside) (now : Held)
    (answer : Result Verdict Error) → config ≡ default_settings → message ≡ item.octets → 12 ≤ length item.octets
    → HoldsTable (world_of_script accepts anchors item.seconds) (replies_of table) (Some held)
    → (HoldsTable (world_at accepts anchors config item.seconds) (replies_of table) (Some held)
    → IsItemHandled (world_at accepts anchors config item.seconds) config.max_cname_dname message table held after now answer left)
    → IsItemJudged accepts anchors table item held now answer
item_judged accepts anchors config table item message left held after now answer e same long holds handled = record {
  outcome = λ kept among outcome f.
      let put = called.put kept among in (
        put.0,
        is_outcome accepts anchors table kept put.0 item outcome (told ∙ exact outcome f)
            (told_verdict (λ v. IsJustified w most item.octets v.outcome v.outcome.state) answer outcome f called.sound)
            (told_verdict (λ v. v.questions ≤ most_questions w.anchors most item.octets) answer outcome f called.few)
            (told_verdict (λ v. WereAsked w most item.octets (replies_of table) kept v.outcome v.questions) answer outcome f (called.asked kept among))
            put.1,
        put.2,
      );
  holds = subst (HoldsTable w (replies_of table)) called.now_is called.by_table.holds;
}
  where
    most : ℕ
    most = default_settings.max_cname_dname

    w : World
    w = world_of_script accepts anchors item.seconds

    called : IsItemHandled w most item.octets table held after now answer left
    called =
        subst (λ (m : List ℕ). IsItemHandled w most m table held after now answer left) same
        (subst (λ (x : Settings). IsItemHandled (world_at accepts anchors x item.seconds) x.max_cname_dname message table held after now answer left) e
        (handled (subst (λ (x : Settings). HoldsTable (world_at accepts anchors x item.seconds) (replies_of table) (Some held)) (sym e) holds)))

    told : outcome_of accepts anchors table item.seconds item.octets ≡ told_by (handed_alone w most (replies_of table) item.octets).0
    told = with_header accepts anchors table item.seconds item.octets long

    exact : (outcome : Outcome) → told_of answer ≡ Some outcome → told_by (handed_alone w most (replies_of table) item.octets).0 ≡ Some (without_questions outcome)
    exact outcome f = elim called.by_table.handed [
      | inl so ↦ sym (ap told_by so.0) ∙ told_same answer outcome f
      | inr none ↦ absurd (nothing_told outcome (sym (ap told_by none.0) ∙ told_same answer outcome f))
    ]
      where
        nothing_told : (x : Outcome) → told_by (Err errors.NoMemory) ≡ Some (without_questions x) → ⊥
        nothing_told x y = cc

-- where no node is kept, all that are kept are of any table
pub none_held : (w : World) (replies : Replies) (nodes : List (Labels × Node)) → nodes ≡ [] → HoldsTable w replies (Some (held_in nodes))
none_held w replies nodes e = subst (λ (xs : List (Labels × Node)). HoldsTable w replies (Some (held_in xs))) (sym e) none
  where
    none : HoldsTable w replies (Some (held_in []))
    none p n f = absurd cc

-- and so each is among any nodes
pub none_among : (kept : List Node) (nodes : List (Labels × Node)) → nodes ≡ [] → HoldsAmong kept (held_in nodes)
none_among kept nodes e = subst (λ (xs : List (Labels × Node)). HoldsAmong kept (held_in xs)) (sym e) none
  where
    none : HoldsAmong kept (held_in [])
    none p n f = absurd cc

-- a message without a header has this outcome, and nothing is put for it
pub short_outcome : (accepts : Accepts) (anchors : List Record) (table : Table) (kept : List Node) (item : Item) → length item.octets < 12
    → IsOutcome accepts anchors table kept [] item (Err ShortMessage)
short_outcome accepts anchors table kept item l = is_outcome accepts anchors table kept [] item (Err ShortMessage)
    (cond-true (nat_lt (length item.octets) 12) (Some (Err ShortMessage))
    (told_by (handed_alone (world_of_script accepts anchors item.seconds) default_settings.max_cname_dname (replies_of table) item.octets).0) (lt-ltb (length item.octets) 12 l))
    tt tt tt (none_put (world_of_script accepts anchors item.seconds) default_settings.max_cname_dname (replies_of table) item.octets kept)

-- over what is held
pub short_over : (accepts : Accepts) (anchors : List Record) (table : Table) (item : Item) (held : Held) → length item.octets < 12
    → (kept : List Node) → HoldsAmong kept held → ComesOver accepts anchors table kept item (Err ShortMessage) held
short_over accepts anchors table item held l kept among =
    ([], short_outcome accepts anchors table kept item l, subst (λ (ns : List Node). HoldsAmong ns held) (sym (append-nil kept)) among)

-- which is shorter
pub not_long : (n : ℕ) → (12 ≤ n → ⊥) → n < 12
not_long n h = by (nat_lt n 12) refl
  where
    by : (b : Bool) → nat_lt n 12 ≡ b → n < 12
    by true e = ltb-true n 12 e
    by false e = absurd (h (ltb-false n 12 e))
