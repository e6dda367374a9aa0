-- Texts of outcomes go out one after the other.
use Rattle.std.proofs.Common.{◌≡◌, ℕ, suc, ◌+◌, ◌<◌, List, [], ◌∷◌, ◌++◌, length, take, get_or, Option, Some, Ok, Err, Bool, true, false, refl, sym, ap, ◌∙◌, subst, arith}
use Rattle.std.specs.Prelude.{nat_lt, ◌≤◌}
use Rattle.std.specs.Io.KnownBytes.{Appends}
use Rattle.std.proofs.lemmas.List.{take_more, length_push, length-take-le}
use Rattle.dsec_spec.specs.Accepts.{Accepts}
use Rattle.dsec_spec.specs.Outside.{Table, SentFront}
use Rattle.dsec_spec.specs.Records.{Record}
use Rattle.std.proofs.lemmas.Bool.{ltb-true, ltb-false}
use Rattle.dsec_spec.specs.Names.{Labels}
use Rattle.dsec_nodes.specs.World.{World}
use Rattle.dsec_nodes.specs.Nodes.{Node}
use Rattle.dsec_node.specs.Caches.{Held, held_in}
use Rattle.dsec_nodes.specs.Alone.{unreadable, not_one_question}
use Rattle.dsec_nodes.proofs.OutcomeLaws.{alone_justified}
use Rattle.dsec_node.specs.Configs.{default_settings}
use Rattle.dsec_found.specs.declared.error.Error.{Error}
use Rattle.dsec_found.specs.declared.error.Error.TheVariants as errors
use Rattle.dsec_context.specs.Outside.{replies_of}
use Rattle.dsec_context.specs.Leaving.{handed_alone}
use Rattle.dsec_context.proofs.AloneLaws.{ComesAlone, an_outcome, a_refusal, cannot_read, too_long, comes_alone}
use Rattle.dsec_answer.specs.declared.outcome.Unjudged.{Unjudged}
use Rattle.dsec_answer.specs.declared.outcome.Unjudged.TheVariants.{ShortMessage, FormError, ParseError, PushError}
use Rattle.dsec_outside.specs.Sending.{SentBut}
use Rattle.dsec_outside.proofs.Pieces.{but_front, but_front_more, more_gathered, more_went, none_sent, rest_went}
use Rattle.dsec_script.specs.declared.items.Item.{Item}
use Rattle.dsec_answer.specs.Told.{Outcome}
use Rattle.dsec_answer.specs.Texts.{outcome_text}
use Rattle.dsec_answer.specs.Asked.{WerePut, HoldsAmong}
use Rattle.dsec_answer.specs.Outcomes.{told_by, world_of_script, outcome_of, IsOutcome, IsText, kept_for, AreOutcomes, texts_from}
use Rattle.dsec_answer.specs.Sending.{ComesOver, Leads, NotAll, SoFar}
use Rattle.dsec_answer.proofs.ShortLaws.{short_wider}
use Rattle.dsec_answer.proofs.AskedLaws.{alone_asked, none_put}
use Rattle.dsec_answer.proofs.AnswerLoop.{texts_append, one_text, no_texts}
use Rattle.dsec_answer.proofs.OutcomeLaws.{is_outcome, none_among, short_outcome, with_header}

module _ (accepts : Accepts) (anchors : List Record) (table : Table) where
  -- outcomes of messages, and of more
  both_outcomes : (moment : ℕ) (kept : List Node) (items more : List Item) (xs ys : List Outcome) (last : ℕ) (left : List Node)
      → Leads accepts anchors table moment kept items xs last left → AreOutcomes accepts anchors table last left more ys
      → AreOutcomes accepts anchors table moment kept (items ++ more) (xs ++ ys)
  both_outcomes moment kept [] more [] ys last left h g =
      subst (λ (m : ℕ). AreOutcomes accepts anchors table m kept more ys) h.0 (subst (λ (ns : List Node). AreOutcomes accepts anchors table last ns more ys) h.1 g)
  both_outcomes moment kept [] more (x ∷ xs) ys last left h g = absurd h
  both_outcomes moment kept (item ∷ items) more [] ys last left h g = absurd h
  both_outcomes moment kept (item ∷ items) more (x ∷ xs) ys last left h g =
      (h.0, h.1, both_outcomes item.seconds (kept_for moment item kept ++ h.0) items more xs ys last left h.2 g)

  -- and of no more
  leads_whole : (moment : ℕ) (kept : List Node) (items : List Item) (xs : List Outcome) (last : ℕ) (left : List Node)
      → Leads accepts anchors table moment kept items xs last left → AreOutcomes accepts anchors table moment kept items xs
  leads_whole moment kept [] [] last left h = tt
  leads_whole moment kept [] (x ∷ xs) last left h = absurd h
  leads_whole moment kept (item ∷ items) [] last left h = absurd h
  leads_whole moment kept (item ∷ items) (x ∷ xs) last left h =
      (h.0, h.1, leads_whole item.seconds (kept_for moment item kept ++ h.0) items xs last left h.2)

  -- one outcome more
  leads_more : (moment : ℕ) (kept : List Node) (items : List Item) (xs : List Outcome) (last : ℕ) (left : List Node) (item : Item) (o : Outcome) (puts : List Node)
      → Leads accepts anchors table moment kept items xs last left → IsOutcome accepts anchors table (kept_for last item left) puts item o
      → Leads accepts anchors table moment kept (items ++ item ∷ []) (xs ++ o ∷ []) item.seconds (kept_for last item left ++ puts)
  leads_more moment kept [] [] last left item o puts h is = (
    puts,
    subst (λ (m : ℕ). IsOutcome accepts anchors table (kept_for m item kept) puts item o) h.0
        (subst (λ (ns : List Node). IsOutcome accepts anchors table (kept_for last item ns) puts item o) h.1 is),
    (refl, ap (λ (m : ℕ). kept_for m item left ++ puts) h.0 ∙ ap (λ (ns : List Node). kept_for moment item ns ++ puts) h.1),
  )
  leads_more moment kept [] (x ∷ xs) last left item o puts h is = absurd h
  leads_more moment kept (i ∷ items) [] last left item o puts h is = absurd h
  leads_more moment kept (i ∷ items) (x ∷ xs) last left item o puts h is =
      (h.0, h.1, leads_more i.seconds (kept_for moment i kept ++ h.0) items xs last left item o puts h.2 is)

  -- as many outcomes as messages
  as_many : (moment : ℕ) (kept : List Node) (items : List Item) (xs : List Outcome) (last : ℕ) (left : List Node)
      → Leads accepts anchors table moment kept items xs last left → length xs ≡ length items
  as_many moment kept [] [] last left h = refl
  as_many moment kept [] (x ∷ xs) last left h = absurd h
  as_many moment kept (item ∷ items) [] last left h = absurd h
  as_many moment kept (item ∷ items) (x ∷ xs) last left h =
      ap (λ n. suc n) (as_many item.seconds (kept_for moment item kept ++ h.0) items xs last left h.2)

-- each message has an outcome, over any nodes, for which nothing is put
some_outcome : (accepts : Accepts) (anchors : List Record) (table : Table) (kept : List Node) (item : Item)
    → (o : Outcome) × IsOutcome accepts anchors table kept [] item o
some_outcome accepts anchors table kept item = by (nat_lt (length item.octets) 12) refl
  where
    most : ℕ
    most = default_settings.max_cname_dname

    w : World
    w = world_of_script accepts anchors item.seconds

    none : WerePut w most item.octets (replies_of table) kept []
    none = none_put w most (replies_of table) item.octets kept

    told : 12 ≤ length item.octets → outcome_of accepts anchors table item.seconds item.octets ≡ told_by (handed_alone w most (replies_of table) item.octets).0
    told long = with_header accepts anchors table item.seconds item.octets long

    refused : 12 ≤ length item.octets → (e : Error) (why : Unjudged) → (handed_alone w most (replies_of table) item.octets).0 ≡ Err e
        → told_by (Err e) ≡ Some (Err why) → (o : Outcome) × IsOutcome accepts anchors table kept [] item o
    refused long e why h t = (Err why, is_outcome accepts anchors table kept [] item (Err why) (told long ∙ (ap told_by h ∙ t)) tt tt tt none)

    judged : 12 ≤ length item.octets → ComesAlone w most (replies_of table) item.octets → (o : Outcome) × IsOutcome accepts anchors table kept [] item o
    judged long (an_outcome o e h) =
        let some = alone_asked w most (replies_of table) item.octets kept o e in (
          Ok (record { outcome = o; questions = some.number }),
          is_outcome accepts anchors table kept [] item (Ok (record { outcome = o; questions = some.number })) (told long ∙ ap told_by h)
              (alone_justified w most (replies_of table) item.octets o e) some.few some.asked none,
        )
    judged long (a_refusal unreadable e h) = refused long errors.ParseError ParseError h refl
    judged long (a_refusal not_one_question e h) = refused long errors.FormError FormError h refl
    judged long (cannot_read c h) = refused long errors.ParseError ParseError h refl
    judged long (too_long c h) = refused long errors.PushError PushError h refl

    by : (b : Bool) → nat_lt (length item.octets) 12 ≡ b → (o : Outcome) × IsOutcome accepts anchors table kept [] item o
    by true e = (Err ShortMessage, short_outcome accepts anchors table kept item (ltb-true (length item.octets) 12 e))
    by false e = judged (ltb-false (length item.octets) 12 e) (comes_alone w most (replies_of table) item.octets)

-- and so have all of these
some_outcomes : (accepts : Accepts) (anchors : List Record) (table : Table) (moment : ℕ) (kept : List Node) (items : List Item)
    → (os : List Outcome) × AreOutcomes accepts anchors table moment kept items os
some_outcomes accepts anchors table moment kept [] = ([], tt)
some_outcomes accepts anchors table moment kept (item ∷ items) =
    let one = some_outcome accepts anchors table (kept_for moment item kept) item in
    let others = some_outcomes accepts anchors table item.seconds (kept_for moment item kept ++ []) items in
    (one.0 ∷ others.0, ([], one.1, others.1))

-- the first messages, and the next one
one_more : (items yielded : List Item) (item : Item) → length yielded < length items → item ≡ get_or items (length yielded) item
    → take (length yielded) items ++ item ∷ [] ≡ take (length (yielded ++ item ∷ [])) items
one_more items yielded item l same =
    ap (λ x. take (length yielded) items ++ x ∷ []) same
    ∙ (sym (take_more items (length yielded) item l) ∙ ap (λ n. take n items) (sym (length_push yielded item)))

-- how many they are
first_many : (items yielded : List Item) (index : ℕ) → length yielded < length items → index ≡ length yielded → index ≡ length (take (length yielded) items)
first_many items yielded index l e = e ∙ sym (length-take-le (length yielded) items (omega (arith, l)))

-- before the first message nothing went out
pub so_far_none : (accepts : Accepts) (anchors : List Record) (table : Table) (nodes : List (Labels × Node)) (before : Option (List ℕ)) (gathered : List ℕ)
    → nodes ≡ [] → gathered ≡ [] → SoFar accepts anchors table [] 0 (held_in nodes) before before gathered
so_far_none accepts anchors table nodes before gathered none e = record {
  outcomes = [];
  kept = [];
  among = none_among [] nodes none;
  each = (refl, refl);
  sent = subst (SentBut before before (texts_from 0 [])) (sym e) (subst (λ t. SentBut before before t []) (sym no_texts) (none_sent before []));
}

-- with outcomes for the rest, what went out is a front of a text of all
pub so_far_front : (accepts : Accepts) (anchors : List Record) (table : Table) (items more all : List Item) (moment : ℕ) (held : Held) (before after : Option (List ℕ))
    (rest : List ℕ) → items ++ more ≡ all → SoFar accepts anchors table items moment held before after rest
    → (text : List ℕ) × IsText accepts anchors table all text × SentFront before after text
so_far_front accepts anchors table items more all moment held before after rest e h =
    let others = some_outcomes accepts anchors table moment h.kept more in
    let text = texts_from 0 (h.outcomes ++ others.0) in (
      text,
      record {
        outcomes = h.outcomes ++ others.0;
        each = subst (λ (xs : List Item). AreOutcomes accepts anchors table 0 [] xs (h.outcomes ++ others.0)) e
            (both_outcomes accepts anchors table 0 [] items more h.outcomes others.0 moment h.kept h.each others.1);
        text_is = refl;
      },
      but_front before after (texts_from 0 h.outcomes) rest _ text (texts_append 0 h.outcomes others.0) h.sent,
    )

-- so with a front of what is gathered
pub so_far_front_more : (accepts : Accepts) (anchors : List Record) (table : Table) (items more all : List Item) (moment : ℕ) (held : Held)
    (before now after : Option (List ℕ)) (rest : List ℕ) → items ++ more ≡ all → SoFar accepts anchors table items moment held before now rest → SentFront now after rest
    → (text : List ℕ) × IsText accepts anchors table all text × SentFront before after text
so_far_front_more accepts anchors table items more all moment held before now after rest e h front =
    let others = some_outcomes accepts anchors table moment h.kept more in
    let text = texts_from 0 (h.outcomes ++ others.0) in (
      text,
      record {
        outcomes = h.outcomes ++ others.0;
        each = subst (λ (xs : List Item). AreOutcomes accepts anchors table 0 [] xs (h.outcomes ++ others.0)) e
            (both_outcomes accepts anchors table 0 [] items more h.outcomes others.0 moment h.kept h.each others.1);
        text_is = refl;
      },
      but_front_more before now after (texts_from 0 h.outcomes) rest _ text (texts_append 0 h.outcomes others.0) h.sent front,
    )

-- where not all of these outcomes' text went out, not all of the text of all did
pub so_far_short : (accepts : Accepts) (anchors : List Record) (table : Table) (items more all : List Item) (moment : ℕ) (held : Held) (before now after : Option (List ℕ))
    (rest : List ℕ) → items ++ more ≡ all → (h : SoFar accepts anchors table items moment held before now rest) → NotAll before after (texts_from 0 h.outcomes)
    → (text : List ℕ) × IsText accepts anchors table all text × NotAll before after text
so_far_short accepts anchors table items more all moment held before now after rest e h short =
    let others = some_outcomes accepts anchors table moment h.kept more in
    let text = texts_from 0 (h.outcomes ++ others.0) in (
      text,
      record {
        outcomes = h.outcomes ++ others.0;
        each = subst (λ (xs : List Item). AreOutcomes accepts anchors table 0 [] xs (h.outcomes ++ others.0)) e
            (both_outcomes accepts anchors table 0 [] items more h.outcomes others.0 moment h.kept h.each others.1);
        text_is = refl;
      },
      short_wider before after (texts_from 0 h.outcomes) _ text (texts_append 0 h.outcomes others.0) short,
    )

-- one more message's text is gathered
so_far_more : (accepts : Accepts) (anchors : List Record) (table : Table) (items next : List Item) (item : Item) (moment : ℕ) (old new : Held)
    (before now : Option (List ℕ)) (rest gathered : List ℕ) (index : ℕ) → items ++ item ∷ [] ≡ next → index ≡ length items
    → SoFar accepts anchors table items moment old before now rest
    → (o : Outcome) × ((kept : List Node) → HoldsAmong kept old → ComesOver accepts anchors table (kept_for moment item kept) item o new)
    × (gathered ≡ rest ++ outcome_text index o)
    → SoFar accepts anchors table next item.seconds new before now gathered
so_far_more accepts anchors table items next item moment old new before now rest gathered index e at h (o, over, g) =
    let comes = over h.kept h.among in
    let many : length h.outcomes ≡ length items = as_many accepts anchors table 0 [] items h.outcomes moment h.kept h.each in
    let n : 0 + length h.outcomes ≡ index = omega (arith, many, at) in
    let text : texts_from 0 (h.outcomes ++ o ∷ []) ≡ texts_from 0 h.outcomes ++ outcome_text index o =
    texts_append 0 h.outcomes (o ∷ []) ∙ (ap (λ k. texts_from 0 h.outcomes ++ texts_from k (o ∷ [])) n ∙ ap (λ t. texts_from 0 h.outcomes ++ t) (one_text index o)) in
    record {
      outcomes = h.outcomes ++ o ∷ [];
      kept = kept_for moment item h.kept ++ comes.0;
      among = comes.2;
      each = subst (λ (xs : List Item). Leads accepts anchors table 0 [] xs (h.outcomes ++ o ∷ []) item.seconds (kept_for moment item h.kept ++ comes.0)) e
          (leads_more accepts anchors table 0 [] items h.outcomes moment h.kept item o comes.0 h.each comes.1);
      sent = subst (λ t. SentBut before now t gathered) (sym text)
          (subst (SentBut before now (texts_from 0 h.outcomes ++ outcome_text index o)) (sym g) (more_gathered before now (texts_from 0 h.outcomes) rest (outcome_text index o) h.sent));
    }

-- so for the next of the messages, where these were yielded
pub so_far_next : (accepts : Accepts) (anchors : List Record) (table : Table) (items yielded : List Item) (item : Item) (moment : ℕ) (old new : Held)
    (before now : Option (List ℕ)) (rest : List ℕ) (index : ℕ) (o : Outcome) → length yielded < length items → item ≡ get_or items (length yielded) item → index ≡ length yielded
    → SoFar accepts anchors table (take (length yielded) items) moment old before now rest
    → ((kept : List Node) → HoldsAmong kept old → ComesOver accepts anchors table (kept_for moment item kept) item o new)
    → SoFar accepts anchors table (take (length (yielded ++ item ∷ [])) items) item.seconds new before now (rest ++ outcome_text index o)
so_far_next accepts anchors table items yielded item moment old new before now rest index o l same e h over =
    so_far_more accepts anchors table (take (length yielded) items) (take (length (yielded ++ item ∷ [])) items) item moment old new before now rest (rest ++ outcome_text index o) index
    (one_more items yielded item l same) (first_many items yielded index l e) h (o, over, refl)

-- more of what is gathered goes out
pub so_far_sent : (accepts : Accepts) (anchors : List Record) (table : Table) (items : List Item) (moment : ℕ) (held : Held) (before now after : Option (List ℕ))
    (rest left : List ℕ) → SoFar accepts anchors table items moment held before now rest → SentBut now after rest left
    → SoFar accepts anchors table items moment held before after left
so_far_sent accepts anchors table items moment held before now after rest left h g =
    record { outcomes = h.outcomes; kept = h.kept; among = h.among; each = h.each; sent = more_went before now after (texts_from 0 h.outcomes) rest left h.sent g }

-- all went out
pub so_far_whole : (accepts : Accepts) (anchors : List Record) (table : Table) (items all : List Item) (moment : ℕ) (held : Held) (before now after : Option (List ℕ))
    (rest : List ℕ) → items ≡ all → SoFar accepts anchors table items moment held before now rest → Appends now after rest
    → (text : List ℕ) × IsText accepts anchors table all text × Appends before after text
so_far_whole accepts anchors table items all moment held before now after rest e h sent = (
  texts_from 0 h.outcomes,
  record {
    outcomes = h.outcomes;
    each = subst (λ (xs : List Item). AreOutcomes accepts anchors table 0 [] xs h.outcomes) e (leads_whole accepts anchors table 0 [] items h.outcomes moment h.kept h.each);
    text_is = refl;
  },
  rest_went before now after (texts_from 0 h.outcomes) rest h.sent sent,
)
