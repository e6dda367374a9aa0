-- What is left to send of a text: what is gathered, and more that isn't made yet.
use Rattle.std.proofs.Common.{◌≡◌, ◌<◌, ◌≤◌, ℕ, ◌+◌, List, [], ◌∷◌, ◌++◌, length, get_or, take, drop, Option, Ok, Err, refl, sym, ap, ◌∙◌, subst, append_assoc, append-nil}
use Rattle.std.proofs.lemmas.List.{drop_all, drop_more}
use Rattle.std.specs.List.{flat_map}
use Rattle.dsec_spec.specs.Outside.{SentFront}
use Rattle.dsec_outside.specs.Sending.{SentBut}
use Rattle.dsec_outside.proofs.Pieces.{but_front_more, front_of, more_gathered, more_went, none_sent}
use Rattle.dsec_nodes.specs.Judging.{Judged}
use Rattle.dsec_nodes.specs.Outcomes.{Used}
use Rattle.dsec_answer.specs.Texts.{group_lines, head_text, outcome_text, rest_text, used_groups_lines}
use Rattle.dsec_answer.specs.Told.{Outcome}

-- the next piece of what is left was made, behind what was gathered
pub made_next : (a b : Option (List ℕ)) (whole gathered now piece more left : List ℕ) → SentBut a b whole (gathered ++ left) → left ≡ piece ++ more → now ≡ gathered ++ piece
    → SentBut a b whole (now ++ more)
made_next a b whole gathered now piece more left h e f =
    subst (SentBut a b whole) (ap (λ (l : List ℕ). gathered ++ l) e ∙ (sym (append_assoc gathered piece more) ∙ ap (λ (g : List ℕ). g ++ more) (sym f))) h

-- and of what is gathered some goes out
pub then_sent : (a b c : Option (List ℕ)) (whole gathered rest more : List ℕ) → SentBut a b whole (gathered ++ more) → SentBut b c gathered rest → SentBut a c whole (rest ++ more)
then_sent a b c whole gathered rest more h g = more_went a b c whole (gathered ++ more) (rest ++ more) h (more_gathered b c gathered rest more g)

-- what went out is a front of the whole
pub left_now : (a b : Option (List ℕ)) (whole left : List ℕ) → SentBut a b whole left → SentFront a b whole
left_now a b whole left h = front_of a b whole h.sent left h.is h.went

-- and so it is with a front of what is gathered
pub left_front : (a b c : Option (List ℕ)) (whole gathered more : List ℕ) → SentBut a b whole (gathered ++ more) → SentFront b c gathered → SentFront a c whole
left_front a b c whole gathered more h f =
    but_front_more a b c (h.sent ++ gathered) gathered more whole (h.is ∙ sym (append_assoc h.sent gathered more)) (record { sent = h.sent; went = h.went; is = refl }) f

-- nothing is left but what is gathered
pub all_made : (a b : Option (List ℕ)) (whole gathered left : List ℕ) → SentBut a b whole (gathered ++ left) → left ≡ [] → SentBut a b whole gathered
all_made a b whole gathered left h e = subst (SentBut a b whole) (ap (λ (l : List ℕ). gathered ++ l) e ∙ append-nil gathered) h

-- the lines of judged groups from one on
pub groups_here : (index : ℕ) (judged : List Judged) (i : ℕ) (j : Judged) → i < length judged → j ≡ get_or judged i j
    → flat_map (λ x. group_lines index x) (drop i judged) ≡ group_lines index j ++ flat_map (λ x. group_lines index x) (drop (i + 1) judged)
groups_here index judged i j below is =
    ap (flat_map (λ x. group_lines index x)) (drop_more judged i j below ∙ ap (λ (x : Judged). x ∷ drop (i + 1) judged) (sym is))

pub groups_end : (index : ℕ) (judged : List Judged) (i : ℕ) → length judged ≤ i → flat_map (λ x. group_lines index x) (drop i judged) ≡ []
groups_end index judged i past = ap (flat_map (λ x. group_lines index x)) (drop_all i judged past)

pub used_end : (index : ℕ) (used : List Used) (i : ℕ) → length used ≤ i → used_groups_lines index (take i used) (drop i used) ≡ []
unfolding used_groups_lines
used_end index used i past = ap (used_groups_lines index (take i used)) (drop_all i used past)

-- an outcome's text is its line and those behind it
pub parts : (index : ℕ) (o : Outcome) → outcome_text index o ≡ head_text index o ++ rest_text index o
parts index (Ok v) = refl
parts index (Err why) = sym (append-nil (head_text index (Err why)))

-- before anything is made all of it is left
pub none_made : (a : Option (List ℕ)) (gathered text : List ℕ) → SentBut a a (gathered ++ text) (gathered ++ text)
none_made a gathered text = none_sent a (gathered ++ text)

-- with a front of what is left behind it
pub rest_front : (a b c : Option (List ℕ)) (whole left : List ℕ) → SentBut a b whole left → SentFront b c left → SentFront a c whole
rest_front a b c whole left h f = but_front_more a b c whole left [] whole (sym (append-nil whole)) h f

-- a front of a text is one of a longer text
pub front_wider : (a b : Option (List ℕ)) (text more whole : List ℕ) → whole ≡ text ++ more → SentFront a b text → SentFront a b whole
front_wider a b text more whole e f = but_front_more a a b text text more whole e (none_sent a text) f

-- an outcome's line was made: those behind it are left
pub head_made : (a : Option (List ℕ)) (start made : List ℕ) (index : ℕ) (o : Outcome) → made ≡ start ++ head_text index o
    → SentBut a a (start ++ outcome_text index o) (made ++ rest_text index o)
head_made a start made index o e =
    made_next a a (start ++ outcome_text index o) start made (head_text index o) (rest_text index o) (outcome_text index o) (none_made a start (outcome_text index o))
    (parts index o) e

-- of a text in two parts the first one went out but what is gathered: the second one is left behind that
pub first_sent : (a b : Option (List ℕ)) (start first second rest : List ℕ) → SentBut a b (start ++ first) rest → SentBut a b (start ++ (first ++ second)) (rest ++ second)
first_sent a b start first second rest h =
    then_sent a a b (start ++ (first ++ second)) (start ++ first) rest second
    (subst (SentBut a a (start ++ (first ++ second))) (sym (append_assoc start first second)) (none_sent a (start ++ (first ++ second)))) h
