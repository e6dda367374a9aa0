-- Ordinary replies are Secure.
use Rattle.std.proofs.Common.{◌≡◌, ℕ, ◌+◌, ◌<◌, ◌==◌, ◌&&◌, ◌||◌, Bool, true, false, cond, List, [], ◌∷◌, ◌++◌, length, Option, Some, None, Ok, refl, sym, ap, ◌∙◌, subst, arith, inl, inr, append-nil}
use Rattle.std.specs.Prelude.{Contains, filter_map, nat_lt, position, unwrap_or}
use Rattle.std.specs.List.{list_any, cons_option}
use Rattle.std.specs.Option.{is_some, option_map}
use Rattle.std.proofs.Math.Bool.{not}
use Rattle.std.proofs.lemmas.Bool.{true≢false, and_parts, and_from, and_left, and_right, or_from, eqb-true, eq-eqb, ne_eqb, cond-true, cond-false, not_from_true, not_from_false, false_from_ne_true, cases_Bool, ltb-true}
use Rattle.dsec_spec.specs.Reading.{◌>>=◌}
use Rattle.dsec_spec.specs.Names.{Labels, Place, place, is_strictly_below, IsAtOrBelow, IsStrictlyBelow}
use Rattle.dsec_spec.specs.Numbers.{CNAME, DS, ANY}
use Rattle.dsec_spec.specs.Records.{Record, Rrsig, rrsig_of}
use Rattle.dsec_spec.specs.Messages.{rcode_of}
use Rattle.dsec_spec.specs.Groups.{Group, groups_of, set_in, firsts}
use Rattle.dsec_spec.specs.SignedBytes.{rightmost}
use Rattle.dsec_spec.specs.JudgedGroups.{encloser_in}
use Rattle.dsec_spec.specs.Islands.{looked_for_at, island, longest, is_usable, signers, target}
use Rattle.dsec_spec.specs.Answering.{is_alias_at, is_alias_above, leads_on, is_expansion}
use Rattle.dsec_spec.specs.Redirection.{is_bare, bare_alias, bare_record, followed_from, is_index, with_followers, staying_from, moved}
use Rattle.dsec_spec.specs.Chain as chain
use Rattle.dsec_spec.proofs.CanonicalNames.{same_place_decides}
use Rattle.dsec_spec.proofs.SignedTests.{below_decides, strictly_below_decides}
use Rattle.dsec_spec.proofs.NamesBelow.{not_strictly_itself}
use Rattle.dsec_spec.proofs.AnsweringLemmas.{leads_on_told}
use Rattle.dsec_spec.proofs.Members.{not_in_none, in_more, from_map}
use Rattle.dsec_nodes.specs.World.{World, Replies}
use Rattle.dsec_nodes.specs.Signing.{link_under}
use Rattle.dsec_nodes.specs.Walk.{node_of}
use Rattle.dsec_nodes.specs.Judging.{is_shown, has_no_set, Judged, all, and_others, found_by, by_node, target_of, by_island, judged_of, judged_all}
use Rattle.dsec_alias.specs.Candidates.{Candidate, Reply}
use Rattle.dsec_alias.specs.Following.{ends_at}
use Rattle.dsec_alias.specs.Paths.{LeadsOnTo, stays}
use Rattle.dsec_alias.proofs.PathLaws.{path_told}
use Rattle.dsec_nodes.specs.Outcomes.{secure, Outcome, secure_by}
use Rattle.dsec_nodes.specs.Aliases.{candidate_of, Beside, reply_to, alias_path, reached}
use Rattle.dsec_nodes.specs.ByDenial.{encloser_of, by_encloser, no_error_in, by_denial}
use Rattle.dsec_nodes.specs.Alone.{is_answer, by_answers, after_path, at_end, on_judged, on_groups, on_sections}
use Rattle.dsec_plain.specs.PlainAnswers.{IsPlainAnswer}
use Rattle.dsec_plain.specs.Coming.{IsSecureBy}
use Rattle.dsec_plain.proofs.TryingOnce.{found_once}
use Rattle.dsec_plain.proofs.AnchorSteps.{plain_node, node_at_top}

-- ---- a group that is no bare alias, alone in its section

no_false : (b : Bool) → (b || false) ≡ b
no_false true = refl
no_false false = refl

with_none : (g : Group) → with_followers g [] ≡ g
with_none g =
    ap (λ (e : List Record). record {
      owner = g.owner;
      class = g.class;
      rtype = g.rtype;
      records = g.records;
      signatures = g.signatures;
      extra = e;
      had_duplicate = g.had_duplicate || false;
    }) (append-nil g.extra)
    ∙ ap (λ (d : Bool). record {
      owner = g.owner;
      class = g.class;
      rtype = g.rtype;
      records = g.records;
      signatures = g.signatures;
      extra = g.extra;
      had_duplicate = d;
    }) (no_false g.had_duplicate)

-- it stays as it is (RFC 6672 3.1)
alone_stays : (anchors : List Record) (most : ℕ) (g : Group) → bare_alias g ≡ None → moved anchors most (g ∷ []) ≡ Some (g ∷ [])
unfolding staying_from
alone_stays anchors most g e = by (bare_alias g) e
  where
    index : Option Record → Option ℕ
    index o = o >>= λ cname. followed_from anchors cname 0 (g ∷ [])

    by : (o : Option Record) → o ≡ None
        → cond {A = Option (List Group)} (nat_lt most (0 + cond (is_some o) 1 0)) None (Some (cond (is_some (index o)) [] (with_followers g (cond (is_index 0 (index o)) (g ∷ []) []) ∷ []) ++ [])) ≡ Some (g ∷ [])
    by (Some r) f = absurd cc
    by None f =
        cond-false {A = Option (List Group)} (nat_lt most (0 + 0)) None (Some (with_followers g [] ∷ [])) (false_from_ne_true (nat_lt most (0 + 0)) (λ t. let l = ltb-true most (0 + 0) t in omega (arith, l)))
        ∙ ap (λ (x : Group). Some (x ∷ [])) (with_none g)

no_groups : groups_of [] ≡ []
unfolding firsts
no_groups = refl

-- ---- where an ordinary answer stands, and who signs it

module _ (w : World) (replies : Replies) (message : List ℕ) (a : IsPlainAnswer w replies message) where
  abbrev top : Place
  top = place a.has_keys.anchor.owner

  abbrev from : Place
  from = looked_for_at (place a.group.owner) a.group.rtype

  -- it is looked for at or below the anchor
  from_below : IsAtOrBelow from top
  from_below = elim (cases_Bool (a.group.rtype == DS)) [
    | inl t ↦ let is : a.group.rtype ≡ DS = eqb-true a.group.rtype DS t in
        subst (λ (n : ℕ). IsAtOrBelow (looked_for_at (place a.group.owner) n) top) (sym is) (a.of_ds is)
    | inr f ↦ subst (λ (p : Place). IsAtOrBelow p top) (sym (cond-false (a.group.rtype == DS) _ (place a.group.owner) f)) a.signed.signed.within
  ]

  -- the anchor's place is its island
  island_is_top : island w.anchors (place a.group.owner) a.group.rtype ≡ Some top
  unfolding longest
  island_is_top =
      ap (λ (anchors : List Record). island anchors (place a.group.owner) a.group.rtype) a.has_keys.only
      ∙ ap (λ (b : Bool). longest (cond b (top ∷ []) [])) ((below_decides from top).1 from_below)

  -- and the zone that is to have signed it
  target_is_top : target_of a.group (Some top) ≡ top
  target_is_top =
      let named : signers a.group ≡ top ∷ [] =
      ap (filter_map (λ (s : Record). option_map (λ (r : Rrsig). place r.signer) (rrsig_of s.rdata))) a.signed.one
      ∙ (ap (λ (o : Option Rrsig). cons_option (option_map (λ (r : Rrsig). place r.signer) o) []) a.signed.reads
      ∙ ap (λ (p : Place). p ∷ []) a.signed.signed.signer) in
      let itself : is_strictly_below top top ≡ false = false_from_ne_true (is_strictly_below top top) (λ t. not_strictly_itself top ((strictly_below_decides top top).0 t)) in
      let usable : is_usable (Some top) from top ≡ true = and_from _ _ ((below_decides from top).1 from_below) (not_from_false _ itself) in
      ap (target (Some top) from) named ∙ ap (λ (o : Option Place). unwrap_or o from) (cond-true (is_usable (Some top) from top) (Some top) None usable)

  -- ---- what is found of it

  -- the group, judged: it is shown by its signature, under the keys of the anchor's zone
  abbrev plain_judged : Judged
  plain_judged = record {
    group = a.group;
    signer = top;
    finding = is_shown (plain_node w replies a.keys a.has_keys).links (link_under chain.set (set_in a.keys).datas a.group (a.signed.signature, a.signed.public_key)) a.signed.signature;
  }

  is_judged : 0 < w.bounds.room → judged_of w replies a.group ≡ plain_judged
  is_judged some =
      let records : (length a.group.records == 0) ≡ false = ne_eqb (length a.group.records) 0 (λ e. let l = a.has_records in omega (arith, e, l)) in
      cond-false (length a.group.records == 0) (record { group = a.group; signer = []; finding = has_no_set })
      (by_island w replies a.group (island w.anchors (place a.group.owner) a.group.rtype)) records
      ∙ (ap (by_island w replies a.group) island_is_top
      ∙ (ap (λ (z : Place). by_node w a.group (node_of w replies top z)) target_is_top
      ∙ (ap (by_node w a.group) (node_at_top w replies a.keys a.has_keys some)
      ∙ ap (λ t. record {
        group = a.group;
        signer = top;
        finding = found_by a.group (plain_node w replies a.keys a.has_keys) (set_in a.keys).datas t;
      }) (found_once w a.group top (set_in a.keys).datas a.signed some))))

  -- it is no bare alias: it has a signature
  no_alias_record : bare_alias a.group ≡ None
  no_alias_record = by a.group.signatures a.signed.one (a.group.rtype == CNAME) a.group.records
    where
      by : (ss : List Record) → ss ≡ a.signed.signature ∷ [] → (b : Bool) (rs : List Record) → cond b (bare_record rs ss) None ≡ None
      by ss e false rs = refl
      by ss e true [] = refl
      by ss e true (r ∷ s ∷ rs) = refl
      by ss e true (r ∷ []) = ap (bare_record (r ∷ [])) e

  -- so the answer section's groups stay as they are
  stays_same : (most : ℕ) → moved w.anchors most (a.group ∷ []) ≡ Some (a.group ∷ [])
  stays_same most = alone_stays w.anchors most a.group no_alias_record

  -- ---- and of the message

  leads_nowhere : leads_on w.anchors a.question a.group ≡ false
  leads_nowhere = and_right _ _ (or_from _ _ at_it above_it)
    where
      at_it : is_alias_at a.question a.group ≡ false
      at_it = elim (cases_Bool (a.group.rtype == CNAME)) [
        | inl t ↦ and_left _ _ (and_right _ _ (not_from_true _ (eq-eqb a.question.rtype CNAME (sym a.at_question.of_type ∙ eqb-true a.group.rtype CNAME t))))
        | inr f ↦ and_left _ _ (and_left _ _ f)
      ]

      above_it : is_alias_above w.anchors a.question a.group ≡ false
      above_it = and_left _ _ (and_right _ _ (false_from_ne_true (is_strictly_below (place a.question.name) (place a.group.owner))
          (λ t. not_strictly_itself (place a.question.name) (subst (IsStrictlyBelow (place a.question.name)) a.at_question.at_name ((strictly_below_decides (place a.question.name) (place a.group.owner)).0 t)))))

  -- it is no expansion of a wildcard
  own_set : encloser_of a.group a.signed.signature ≡ None
  own_set = ap (λ (o : Option Rrsig). o >>= λ sig. encloser_in sig.labels a.group.owner) a.signed.reads
      ∙ cond-false (is_expansion a.signed.rrsig.labels a.group.owner) (Some (rightmost a.signed.rrsig.labels a.group.owner)) None
      (false_from_ne_true (is_expansion a.signed.rrsig.labels a.group.owner) (λ t. let both = and_parts _ _ t in a.no_expansion (record {
        fewer = ltb-true _ _ both.0;
        elsewhere = λ e. true≢false (sym both.1 ∙ not_from_true _ ((same_place_decides _ _).1 e));
      })))

  answers_it : is_answer (place a.question.name) a.question plain_judged ≡ true
  answers_it =
      and_from _ _ (and_from _ _ ((same_place_decides (place a.group.owner) (place a.question.name)).1 a.at_question.at_name) (eq-eqb a.group.class a.question.class a.at_question.of_class))
      (eq-eqb a.group.rtype a.question.rtype a.at_question.of_type)

  abbrev plain_outcome : Outcome
  plain_outcome = secure_by (plain_judged ∷ []) []

  first_position : {A : Type 0} (test : A → Bool) (x : A) → test x ≡ true → position test (x ∷ []) ≡ Some 0
  first_position test x e = ap (λ (b : Bool). cond (nat_lt (cond (not b) (1 + 0) 0) 1) (Some (cond (not b) (1 + 0) 0)) None) e

  -- no alias leads on from the question's name
  abbrev plain_reply : Reply Beside
  plain_reply = reply_to w a.question (plain_judged ∷ []) []

  path_ends : (most : ℕ) → alias_path w most a.question (plain_judged ∷ []) [] ≡ ends_at a.question.name secure []
  path_ends most = path_told plain_reply {left = most} (stays (λ c there target leads. no_alias c (from_map candidate_of (plain_judged ∷ []) c there) target leads))
    where
      own : (group : Group) → a.group ≡ group → (target : Labels) → LeadsOnTo w.anchors a.question group target → ⊥
      own group same target leads =
          true≢false (sym (leads_on_told w.anchors a.question group leads.leads) ∙ (ap (leads_on w.anchors a.question) (sym same) ∙ leads_nowhere))

      no_alias : (c : Candidate) → ((j : Judged) × Contains (plain_judged ∷ []) j × (candidate_of j ≡ c)) → (target : Labels)
          → LeadsOnTo w.anchors (reached a.question a.question.name) c.group target → ⊥
      no_alias c it target leads = elim (in_more plain_judged it.0 [] it.1) [
        | inl same ↦ own c.group (ap (λ (j : Judged). (candidate_of j).group) same ∙ ap (λ (x : Candidate). x.group) it.2) target leads
        | inr none ↦ not_in_none it.0 none
      ]

  ends_secure : (most : ℕ) → at_end w message a.question (plain_judged ∷ []) [] (alias_path w most a.question (plain_judged ∷ []) []) ≡ plain_outcome
  ends_secure most =
      let name : Place = place a.question.name in
      let js : List Judged = plain_judged ∷ [] in
      let asked : (no_error_in (rcode_of message) && not (a.question.rtype == ANY)) ≡ true =
      and_from _ _ (ap no_error_in a.no_error) (not_from_false _ (ne_eqb a.question.rtype ANY a.asks_for_a_set)) in
      ap (at_end w message a.question js []) (path_ends most)
      ∙ ap (after_path secure [] []) (
      cond-true (no_error_in (rcode_of message) && not (a.question.rtype == ANY)) (by_answers w message a.question name js [] (position (is_answer name a.question) js)) (by_denial w message a.question name []) asked
      ∙ (ap (by_answers w message a.question name js []) (first_position (is_answer name a.question) plain_judged answers_it)
      ∙ ap (by_encloser w a.question name [] plain_judged) own_set))

  -- what is found where both sections' groups are judged
  judged_so : (most : ℕ) → 0 < w.bounds.room → on_judged w most message (a.question ∷ []) (judged_all w replies (a.group ∷ [])) (judged_all w replies []) ≡ Ok plain_outcome
  unfolding judged_all
  judged_so most some =
      ap (λ (j : Judged). on_judged w most message (a.question ∷ []) (and_others j j.finding (all [])) (all [])) (is_judged some)
      ∙ ap (λ (o : Outcome). Ok o) (ends_secure most)

  plain_is_secure : (most : ℕ) → 0 < w.bounds.room → IsSecureBy w most replies message a.group
  plain_is_secure most some = record {
    outcome = plain_outcome;
    comes_to =
        ap (on_sections w most replies message) a.read
        ∙ (ap (λ (gs : List Group). on_groups w most replies message (a.question ∷ []) (moved w.anchors most gs) (groups_of [])) a.one_group
        ∙ (ap (λ (m : Option (List Group)). on_groups w most replies message (a.question ∷ []) m (groups_of [])) (stays_same most)
        ∙ (ap (λ (gs : List Group). on_judged w most message (a.question ∷ []) (judged_all w replies (a.group ∷ [])) (judged_all w replies gs)) no_groups
        ∙ judged_so most some)));
    is_secure = refl;
    no_cause = refl;
    judged = plain_judged;
    of_group = refl;
    why = refl;
  }

-- an ordinary reply is Secure, by its one group, and no cause is told, however many bare CNAME records are followed (RFC 4033 5, RFC 4035 5)
pub complete : (w : World) (most : ℕ) (replies : Replies) (message : List ℕ) (a : IsPlainAnswer w replies message) → 0 < w.bounds.room
    → IsSecureBy w most replies message a.group
complete w most replies message a some = plain_is_secure w replies message a most some
