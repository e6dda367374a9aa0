-- The outcome of a message with one question is justified, where each judged group is what was found of it.
use Rattle.std.proofs.Common.{◌≡◌, ℕ, ◌==◌, ◌&&◌, Bool, true, false, cond, List, [], ◌∷◌, map, Option, Some, None, refl, sym, ap, ◌∙◌, subst, inl, inr}
use Rattle.std.specs.Prelude.{◌≢◌, position, slice_get}
use Rattle.std.specs.List.{AllByRecursion}
use Rattle.std.proofs.Math.Bool.{not}
use Rattle.std.proofs.lemmas.Bool.{and_parts, and_from, eq-eqb, ne_eqb, not_from_false, true≢false}
use Rattle.dsec_spec.specs.Names.{Labels, Place, place, IsAtOrBelow, IsStrictlyBelow}
use Rattle.dsec_spec.specs.Numbers.{ANY}
use Rattle.dsec_spec.specs.Records.{Record}
use Rattle.dsec_spec.specs.Messages.{Question, rcode_of}
use Rattle.dsec_spec.specs.Groups.{Group}
use Rattle.dsec_spec.specs.AtQuestion.{IsAtQuestion}
use Rattle.dsec_spec.specs.Islands.{looked_for_at, island}
use Rattle.dsec_spec.specs.Chain.{Link}
use Rattle.dsec_spec.proofs.AnsweringLemmas.{at_question}
use Rattle.dsec_spec.proofs.CanonicalNames.{same_place_decides}
use Rattle.dsec_spec.proofs.Members.{from_map}
use Rattle.dsec_spec.proofs.NamesBelow.{below_trans}
use Rattle.dsec_absence.specs.Answers.{Source}
use Rattle.dsec_absence.specs.Replies.{soa_at}
use Rattle.dsec_nsec3.specs.Conclusions.{Conclusion, proved, hash_proved, left_open, unproved, closer_denied}
use Rattle.dsec_nsec3.proofs.ConclusionLaws.{Concludes, at_concludes, closer_concludes}
use Rattle.dsec_alias.specs.Following.{AliasStep, AliasEnd, ends_at, ends_bogus}
use Rattle.dsec_alias.specs.Paths.{IsPath}
use Rattle.dsec_alias.proofs.Firsts.{from_no_position}
use Rattle.dsec_alias.proofs.PathLaws.{path_is}
use Rattle.dsec_alias.proofs.SecureLaws.{secure_path}
use Rattle.dsec_nodes.specs.World.{World, limits_of}
use Rattle.dsec_nodes.specs.Causes.{Cause}
use Rattle.dsec_nodes.specs.Judging.{Finding, is_shown, has_no_set, is_insecure, is_bogus, is_indeterminate, Judged}
use Rattle.dsec_nodes.specs.Outcomes.{State, secure, insecure, bogus, indeterminate, Used, Outcome, secure_by, open_by, by_finding}
use Rattle.dsec_nodes.specs.ByDenial.{used_by, used_by_hash, on_conclusion, encloser_of, by_encloser, no_error_in, denied_under, at_soa, by_soa, by_denial}
use Rattle.dsec_nodes.specs.Aliases.{Beside, reply_to, alias_path, reached, aliases_on, denials_on}
use Rattle.dsec_nodes.specs.Alone.{by_answer, is_answer, at_answer, by_answers, at_name, after_path, at_end}
use Rattle.dsec_nodes.specs.SoundFindings.{Justifies, IsFound, IsSure, IsShown}
use Rattle.dsec_nodes.specs.SoundDenials.{IsSoaFor}
use Rattle.dsec_nodes.specs.SoundHashes.{IsLeftOpenBy}
use Rattle.dsec_nodes.specs.SoundOutcomes.{IsRead, EndsThere, IsSecureWay, IsAnswered, HasNoAnswer, HasSoa, Decides, IsSound, IsJustified}
use Rattle.dsec_nodes.proofs.Lists.{all_at, from_position}
use Rattle.dsec_nodes.proofs.Signs.{mapped_at}
use Rattle.dsec_nodes.proofs.SoaLaws.{soa_is, soa_over}
use Rattle.dsec_nodes.proofs.DenialLaws.{shown_group, under_signer, shown_itself, shown_from, expanded_under}
use Rattle.dsec_nodes.proofs.DisproofLaws.{source, DisprovedBy, disproved_is, hash_disproved_is, opened_is}
use Rattle.dsec_nodes.proofs.AliasWays.{secure_way_is}
use Rattle.dsec_nodes.proofs.WeakWays.{Means, ends_there, weak_is}
use Rattle.dsec_nodes.proofs.RcodeLaws.{from_no_error, by_rcode_is, closer_is}

module _ (w : World) (most : ℕ) (message : List ℕ) (asked : Question) (js beside : List Judged)
    (read : IsRead w.anchors message most asked (map (λ (j : Judged). j.group) js) (map (λ (j : Judged). j.group) beside))
    (founds : AllByRecursion (IsFound w) js) (other_founds : AllByRecursion (IsFound w) beside) (sure : AllByRecursion (λ (j : Judged). IsSure j.finding) js)
    (path : List (AliasStep Beside)) (maybe : State) (final : Labels) (is_path : IsPath (reply_to w asked js beside) most asked.name path maybe final) where
  abbrev question : Question
  question = reached asked final

  abbrev name : Place
  name = place final

  abbrev authorities : List Group
  authorities = map (λ (j : Judged). j.group) beside

  abbrev end : EndsThere w most message
  end = ends_there w most message asked js beside read founds other_founds sure path maybe final is_path

  abbrev its_source : Place → Source
  its_source = source w authorities beside refl other_founds question

  -- an outcome, after the path
  abbrev finished : Outcome → Outcome
  finished o = after_path maybe (aliases_on js path) (denials_on beside path) o

  -- a Secure outcome is so after a Secure path, and has the path's state after another
  secure_or_weak : (groups : List Judged) (used : List Used) → (IsSecureWay end → IsSound w most message (finished (secure_by groups used)))
      → Means w most message (finished (secure_by groups used))
  secure_or_weak groups used sound = by maybe refl
    where
      weak : maybe ≢ secure → Means w most message (finished (secure_by groups used))
      weak = weak_is w most message asked js beside read founds other_founds sure path maybe final is_path groups used

      by : (s : State) → maybe ≡ s → Means w most message (finished (secure_by groups used))
      by secure e =
          let way = secure_way_is w asked js beside founds other_founds (secure_path (reply_to w asked js beside) is_path e) in
          subst (λ (s : State). IsJustified w most message (finished (secure_by groups used)) s) (sym e) (sound way)
      by insecure e = weak (λ f. let no : insecure ≡ secure = sym e ∙ f in cc)
      by bogus e = weak (λ f. let no : bogus ≡ secure = sym e ∙ f in cc)
      by indeterminate e = weak (λ f. let no : indeterminate ≡ secure = sym e ∙ f in cc)

  -- an outcome by what was found of the group that decides is justified, where it is for a set that is shown
  finding_justified : (j : Judged) → IsFound w j → Decides w most message j.group → (where_shown : Record → Outcome)
      → ((links : List Link) (last : Link) (signature : Record) → j.finding ≡ is_shown links last signature → Means w most message (finished (where_shown signature)))
      → Means w most message (finished (by_finding where_shown j.finding))
  finding_justified j its decides where_shown shown = by j.finding refl
    where
      found : (f : Finding) → j.finding ≡ f → Justifies w j f
      found f g = subst (Justifies w j) g its

      by : (f : Finding) → j.finding ≡ f → Means w most message (finished (by_finding where_shown f))
      by (is_shown links last signature) f = shown links last signature f
      by has_no_set f = inr (inl (record { group = j.group; decides = decides; no_records = found has_no_set f; cause = refl; why = refl }))
      by (is_insecure cause signed) f = inl (record {
        group = j.group;
        decides = decides;
        signed = signed;
        shown = found (is_insecure cause signed) f;
        why = refl;
      })
      by (is_bogus cause links) f = (refl, (j.signer, found (is_bogus cause links) f))
      by is_indeterminate f = inl (record { group = j.group; decides = decides; no_island = found is_indeterminate f; cause = refl; why = refl })

  -- an outcome by a denial beside a group is justified, where it is for what is proved, and for what is left open
  conclusion_justified : (signer : Place) → IsAtOrBelow name signer → (j : Judged) (c : Conclusion)
      → Concludes (limits_of w.bounds) (its_source signer) name question.rtype c
      → ((us : List Used) → DisprovedBy w authorities beside refl other_founds question signer c us → Means w most message (finished (secure_by (j ∷ []) us)))
      → ((cause : Option Cause) (used : Used) → IsLeftOpenBy w authorities question signer used cause → Means w most message (finished (open_by cause (j ∷ []) (used ∷ []))))
      → Means w most message (finished (on_conclusion beside j c))
  conclusion_justified signer within j c its where_proved where_open = by c its where_proved
    where
      by : (x : Conclusion) → Concludes (limits_of w.bounds) (its_source signer) name question.rtype x
          → ((us : List Used) → DisprovedBy w authorities beside refl other_founds question signer x us → Means w most message (finished (secure_by (j ∷ []) us)))
          → Means w most message (finished (on_conclusion beside j x))
      by (proved d) p shows = shows (used_by beside d) (disproved_is w authorities beside refl other_founds question signer d p)
      by (hash_proved d) p shows = shows (used_by_hash beside d) (hash_disproved_is w authorities beside refl other_founds question signer d p)
      by (left_open cause o) p shows =
          let u = opened_is w authorities beside refl other_founds question signer cause o within p in
          subst (λ (us : List Used). Means w most message (finished (open_by cause (j ∷ []) us))) (sym u.found) (where_open cause u.its u.left_open)
      by (unproved cause) p shows = (refl, tt)

  -- the outcome by the group that answers
  answer_justified : rcode_of message ≡ Some 0 → (index : ℕ) (j : Judged) → slice_get js index ≡ Some j → is_answer name question j ≡ true
      → Means w most message (finished (by_answer w question name beside j j.finding))
  answer_justified fine index j stands at =
      finding_justified j its (inl answered) (λ signature. by_encloser w question name beside j (encloser_of j.group signature)) shown
    where
      its : IsFound w j
      its = all_at (IsFound w) js index j founds stands

      answered : IsAnswered w most message j.group
      answered = record {
        end = end;
        no_error = fine;
        index = index;
        stands = mapped_at (λ (x : Judged). x.group) js index j stands;
        at_question = at_question question j.group at;
      }

      by_wildcard_is : (links : List Link) (last : Link) (signature : Record) → j.finding ≡ is_shown links last signature → (encloser : Labels)
          → encloser_of j.group signature ≡ Some encloser
          → Means w most message (finished (on_conclusion beside j (closer_denied (limits_of w.bounds) (its_source j.signer) name (place encloser))))
      by_wildcard_is links last signature f encloser g =
          let its_own = shown_from w j its links last signature f encloser g in
          let same = answered.at_question.at_name in
          let below : IsAtOrBelow name j.signer = subst (λ (n : Place). IsAtOrBelow n j.signer) same (under_signer w j (shown_group w j its links last signature f)) in
          let under : IsStrictlyBelow name (place encloser) = subst (λ (n : Place). IsStrictlyBelow n (place encloser)) same (expanded_under w j (place encloser) its_own) in
          conclusion_justified j.signer below j (closer_denied (limits_of w.bounds) (its_source j.signer) name (place encloser))
          (closer_concludes (limits_of w.bounds) (its_source j.signer) name below (place encloser) under question.rtype)
          (λ us d. secure_or_weak (j ∷ []) us (λ way. subst (λ (used : List Used). IsSound w most message (finished (secure_by (j ∷ []) used))) (sym d.found) (
            inr (inl (record {
              judged = j;
              answered = answered;
              on_way = way;
              encloser = place encloser;
              expanded = its_own;
              disproof = d.disproof;
              of_closer = d.of_closer (place encloser) (closer_is (limits_of w.bounds) (its_source j.signer) name (place encloser));
              denied = d.is_denied;
              why = refl;
            })),
            refl,
          )))
          (λ cause used opens. inr (inr (inr (inl (record {
            judged = j;
            answered = answered;
            encloser = place encloser;
            expanded = its_own;
            used = used;
            left_open = opens;
            why = refl;
          })))))

      shown : (links : List Link) (last : Link) (signature : Record) → j.finding ≡ is_shown links last signature
          → Means w most message (finished (by_encloser w question name beside j (encloser_of j.group signature)))
      shown links last signature f = by (encloser_of j.group signature) refl
        where
          by : (o : Option Labels) → encloser_of j.group signature ≡ o → Means w most message (finished (by_encloser w question name beside j o))
          by None g = secure_or_weak (j ∷ []) [] (λ way. (
            inl (record { judged = j; answered = answered; on_way = way; itself = shown_itself w j its links last signature f g; why = refl }),
            refl,
          ))
          by (Some encloser) g = by_wildcard_is links last signature f encloser g

  abbrev no_answer : Type 0
  no_answer = HasNoAnswer message question (map (λ (j : Judged). j.group) js)

  -- the outcome by the SOA set
  soa_justified : no_answer → (index : ℕ) (j : Judged) → slice_get beside index ≡ Some j → IsSoaFor w question j.group
      → Means w most message (finished (at_soa w message question name beside (Some j)))
  soa_justified none index j stands soa =
      finding_justified j its (inr has_soa) (λ signature. on_conclusion beside j (denied_under w message question name beside j)) shown
    where
      its : IsFound w j
      its = all_at (IsFound w) beside index j other_founds stands

      has_soa : HasSoa w most message j.group
      has_soa = record {
        end = end;
        index = index;
        stands = mapped_at (λ (x : Judged). x.group) beside index j stands;
        soa = soa;
        no_answer = none;
      }

      shown : (links : List Link) (last : Link) (signature : Record) → j.finding ≡ is_shown links last signature
          → Means w most message (finished (on_conclusion beside j (denied_under w message question name beside j)))
      shown links last signature f =
          let is : IsShown w j = shown_group w j its links last signature f in
          let below : IsAtOrBelow name j.signer =
          below_trans name (place j.group.owner) j.signer (soa_over w question j.group soa) (under_signer w j is) in
          let kind = by_rcode_is (limits_of w.bounds) (rcode_of message) (its_source j.signer) name question.rtype in
          conclusion_justified j.signer below j (denied_under w message question name beside j)
          (at_concludes (limits_of w.bounds) (its_source j.signer) name below (no_error_in (rcode_of message)) question.rtype)
          (λ us d. secure_or_weak (j ∷ []) us (λ way. subst (λ (used : List Used). IsSound w most message (finished (secure_by (j ∷ []) used))) (sym d.found) (
            inr (inr (record {
              judged = j;
              has_soa = has_soa;
              on_way = way;
              shown = is;
              disproof = d.disproof;
              by_rcode = record { no_error = λ fine. d.of_type (kind.no_error fine); error = λ bad. d.of_name (kind.error bad) };
              denied = d.is_denied;
              why = refl;
            })),
            refl,
          )))
          (λ cause used opens. inr (inr (inl (record { judged = j; has_soa = has_soa; shown = is; used = used; left_open = opens; why = refl }))))

  -- the outcome by a denial
  denial_justified : no_answer → Means w most message (finished (by_denial w message question name beside))
  denial_justified none = by (soa_at (island w.anchors name question.rtype) (looked_for_at name question.rtype) question.class (λ (x : Judged). x.group) beside) refl
    where
      at : (index : ℕ) → soa_at (island w.anchors name question.rtype) (looked_for_at name question.rtype) question.class (λ (x : Judged). x.group) beside ≡ Some index
          → (o : Option Judged) → slice_get beside index ≡ o → Means w most message (finished (at_soa w message question name beside o))
      at index g None h = (refl, tt)
      at index g (Some j) h = soa_justified none index j h (soa_is w question beside index j g h)

      by : (o : Option ℕ) → soa_at (island w.anchors name question.rtype) (looked_for_at name question.rtype) question.class (λ (x : Judged). x.group) beside ≡ o
          → Means w most message (finished (by_soa w message question name beside o))
      by None g = (refl, tt)
      by (Some index) g = at index g (slice_get beside index) refl

  -- a group that is at the question's name, class and type passes the test
  answers_told : (j : Judged) → IsAtQuestion question j.group → is_answer name question j ≡ true
  answers_told j at =
      and_from _ _ (and_from _ _ ((same_place_decides (place j.group.owner) name).1 at.at_name) (eq-eqb j.group.class question.class at.of_class))
      (eq-eqb j.group.rtype question.rtype at.of_type)

  -- where the test finds none, none answers
  none_found : position (is_answer name question) js ≡ None → no_answer
  none_found p fine one other there at =
      let from = from_map (λ (j : Judged). j.group) js other there in
      true≢false (sym (answers_told from.0 (subst (IsAtQuestion question) (sym from.2) at)) ∙ from_no_position (is_answer name question) js p from.0 from.1)

  -- where there was an error, or several types are asked for, nothing is said
  none_asked : (no_error_in (rcode_of message) && not (question.rtype == ANY)) ≡ false → no_answer
  none_asked f fine one other there at =
      true≢false (sym (and_from _ _ (ap no_error_in fine) (not_from_false (question.rtype == ANY) (ne_eqb question.rtype ANY one))) ∙ f)

  -- the outcome at the name where the path ends
  pub name_justified : Means w most message (finished (at_name w message question name js beside))
  name_justified = by (no_error_in (rcode_of message) && not (question.rtype == ANY)) refl
    where
      at : no_error_in (rcode_of message) ≡ true → (index : ℕ) → position (is_answer name question) js ≡ Some index → (o : Option Judged)
          → slice_get js index ≡ o → Means w most message (finished (at_answer w question name beside o))
      at fine index p None h = (refl, tt)
      at fine index p (Some j) h =
          answer_justified (from_no_error (rcode_of message) fine) index j h (from_position (is_answer name question) js index j p h)

      by_position : no_error_in (rcode_of message) ≡ true → (o : Option ℕ) → position (is_answer name question) js ≡ o
          → Means w most message (finished (by_answers w message question name js beside o))
      by_position fine None p = denial_justified (none_found p)
      by_position fine (Some index) p = at fine index p (slice_get js index) refl

      by : (b : Bool) → (no_error_in (rcode_of message) && not (question.rtype == ANY)) ≡ b
          → Means w most message (finished (cond b (by_answers w message question name js beside (position (is_answer name question) js)) (by_denial w message question name beside)))
      by true f = by_position (and_parts _ _ f).0 (position (is_answer name question) js) refl
      by false f = denial_justified (none_asked f)

-- The outcome of a message with one question is justified, where each judged group of its answer section and of its authority section is what
-- was found of it, and none of the former is bogus (RFC 4033 5)
pub end_justified : (w : World) (most : ℕ) (message : List ℕ) (question : Question) (answers authorities : List Group) (js beside : List Judged)
    → IsRead w.anchors message most question answers authorities → map (λ (j : Judged). j.group) js ≡ answers
    → map (λ (j : Judged). j.group) beside ≡ authorities → AllByRecursion (IsFound w) js → AllByRecursion (IsFound w) beside
    → AllByRecursion (λ (j : Judged). IsSure j.finding) js
    → Means w most message (at_end w message question js beside (alias_path w most question js beside))
end_justified w most message question answers groups js beside read same others founds other_founds sure =
    by (alias_path w most question js beside) refl
  where
    its_read : IsRead w.anchors message most question (map (λ (j : Judged). j.group) js) (map (λ (j : Judged). j.group) beside)
    its_read = subst (λ (gs : List Group). IsRead w.anchors message most question gs (map (λ (j : Judged). j.group) beside)) (sym same)
        (subst (λ (gs : List Group). IsRead w.anchors message most question answers gs) (sym others) read)

    by : (end : AliasEnd Beside) → alias_path w most question js beside ≡ end → Means w most message (at_end w message question js beside end)
    by (ends_bogus reached_name cause) e = (refl, tt)
    by (ends_at final maybe path) e =
        name_justified w most message question js beside its_read founds other_founds sure path maybe final
        (path_is (reply_to w question js beside) most question.name final path maybe e)
