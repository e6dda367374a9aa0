-- What is told of a judged group, by what was found of it.
use Rattle.std.proofs.Common.{◌≡◌, ℕ, ◌+◌, ◌<◌, ◌&&◌, Bool, true, false, cond, List, [], ◌∷◌, ◌++◌, Option, Some, None, IfSome, refl, sym, ap, ◌∙◌, subst, inl, inr, arith}
use Rattle.std.specs.Bool.{Decides}
use Rattle.std.specs.Prelude.{IsSome, nat_le, ◌≢◌}
use Rattle.std.proofs.Math.Bool.{not}
use Rattle.std.proofs.lemmas.Bool.{false≢true, leb-true, leb-false}
use Rattle.std.proofs.lemmas.Option.{same_Some}
use Rattle.dsec_spec.specs.Names.{Labels, Place, place}
use Rattle.dsec_spec.specs.Accepts.{Accepts}
use Rattle.dsec_spec.specs.Records.{Record, RecordSet, Key, rrsig_of}
use Rattle.dsec_spec.specs.Groups.{Group, set_in}
use Rattle.dsec_spec.specs.Lasting.{adjusted_ttl, ttl_for_sig}
use Rattle.dsec_spec.specs.JudgedGroups.{ShowsGroup}
use Rattle.dsec_spec.specs.Trying.{Tried, good, nothing, all_bad, too_many_bad}
use Rattle.dsec_spec.specs.Chain.{Link, Holds}
use Rattle.dsec_link.specs.Shown.{ShownSet}
use Rattle.dsec_group.specs.declared.state.ValidationState.{ValidationState}
use Rattle.dsec_group.specs.declared.state.ValidationState.TheVariants.{Secure, Insecure, Bogus, Indeterminate}
use Rattle.dsec_nodes.specs.World.{World}
use Rattle.dsec_nodes.specs.Causes.{Cause}
use Rattle.dsec_nodes.specs.Nodes.{Node, Standing, apex, within, insecure, bogus}
use Rattle.dsec_nodes.specs.Signing.{under_keys}
use Rattle.dsec_nodes.specs.Judging.{Finding, is_shown, has_no_set, is_insecure, is_bogus, is_indeterminate, found_by, found_at}
use Rattle.dsec_node.specs.Counting.{IsExpired, seconds_kept}
use Rattle.dsec_found.specs.Told.{state_of, cause_of, own_link, signature_of}
use Rattle.dsec_by_node.specs.Answers.{Answer, encloser_by, answer_by, HasNoGround, Told, ToldBy, CanBeTold, validated_by}
use Rattle.dsec_by_node.specs.Grounds.{RestsOn}
use Rattle.dsec_by_node.specs.WithNode.{HasChainOf, ShownAs, is_secure, signed_for, seconds_by}

-- what is told with something to show is Secure
pub record IsShownSo (accepts : Accepts) (group : Group) (zone : Place) (a : Answer) (state : ValidationState) (s : ShownSet) : Type 0 where
  pub is_secure : state ≡ Secure
  pub shows : ShowsGroup accepts s.anchor s.links s.moment group zone a.closest_encloser a.adjusted
  pub no_cause : a.cause ≡ None

pub told_shown : (accepts : Accepts) (group : Group) (zone : Place) (a : Answer) (state : ValidationState) (s : ShownSet)
    → ToldBy accepts group zone a state (Some s) → IsShownSo accepts group zone a state s
told_shown accepts group zone a Secure s h = record { is_secure = refl; shows = h.0; no_cause = h.1 }
told_shown accepts group zone a Insecure s h = absurd h
told_shown accepts group zone a Bogus s h = absurd h
told_shown accepts group zone a Indeterminate s h = absurd h

-- what is told with nothing to show isn't
pub record IsNotShown (a : Answer) (state : ValidationState) : Type 0 where
  pub not_secure : state ≢ Secure
  pub because : state ≡ Bogus → IsSome a.cause
  pub no_ground : HasNoGround a

pub told_unshown : (accepts : Accepts) (group : Group) (zone : Place) (a : Answer) (state : ValidationState)
    → ToldBy accepts group zone a state None → IsNotShown a state
told_unshown accepts group zone a Secure h = absurd h
told_unshown accepts group zone a Insecure h = record { not_secure = λ e. absurd cc; because = λ e. absurd cc; no_ground = h }
told_unshown accepts group zone a Bogus h = record { not_secure = λ e. absurd cc; because = λ e. h.1; no_ground = h.0 }
told_unshown accepts group zone a Indeterminate h = record { not_secure = λ e. absurd cc; because = λ e. absurd cc; no_ground = h }

-- a group with what is told of it, with something to show and without
module _ (accepts : Accepts) (group : Group) (signer : Labels) (told : Told) (can : CanBeTold accepts group (place signer) told) where
  shown_so : (s : ShownSet) → told.shown ≡ Some s → IsShownSo accepts group (place signer) told.answer told.answer.state s
  shown_so s e = told_shown accepts group (place signer) told.answer told.answer.state s (subst (ToldBy accepts group (place signer) told.answer told.answer.state) e can)

  pub shows_group : (s : ShownSet) → told.shown ≡ Some s
      → ShowsGroup accepts s.anchor s.links s.moment group (place signer) told.answer.closest_encloser told.answer.adjusted
  shows_group s e = (shown_so s e).shows

  pub secure_group : (s : ShownSet) → told.shown ≡ Some s
      → record { group = group; state = Secure; signer = signer; closest_encloser = told.answer.closest_encloser; cause = None; adjusted = told.answer.adjusted; shown = Some s } ≡ validated_by group signer told
  secure_group s e =
      let so = shown_so s e in
      ap (λ (x : ValidationState). record { group = group; state = x; signer = signer; closest_encloser = told.answer.closest_encloser; cause = None; adjusted = told.answer.adjusted; shown = Some s }) (sym so.is_secure)
      ∙ (ap (λ (x : Option Cause). record { group = group; state = told.answer.state; signer = signer; closest_encloser = told.answer.closest_encloser; cause = x; adjusted = told.answer.adjusted; shown = Some s }) (sym so.no_cause)
      ∙ ap (λ (x : Option ShownSet). record { group = group; state = told.answer.state; signer = signer; closest_encloser = told.answer.closest_encloser; cause = told.answer.cause; adjusted = told.answer.adjusted; shown = x }) (sym e))

  not_shown_so : told.shown ≡ None → IsNotShown told.answer told.answer.state
  not_shown_so e = told_unshown accepts group (place signer) told.answer told.answer.state (subst (ToldBy accepts group (place signer) told.answer told.answer.state) e can)

  pub not_secure : told.shown ≡ None → told.answer.state ≢ Secure
  not_secure e = (not_shown_so e).not_secure

  pub because : told.shown ≡ None → told.answer.state ≡ Bogus → IsSome told.answer.cause
  because e = (not_shown_so e).because

  pub unsecured_group : told.shown ≡ None
      → record { group = group; state = told.answer.state; signer = signer; closest_encloser = None; cause = told.answer.cause; adjusted = None; shown = None } ≡ validated_by group signer told
  unsecured_group e =
      let bare = (not_shown_so e).no_ground in
      ap (λ (x : Option Labels). record { group = group; state = told.answer.state; signer = signer; closest_encloser = x; cause = told.answer.cause; adjusted = None; shown = None }) (sym bare.no_encloser)
      ∙ (ap (λ (x : Option ℕ). record { group = group; state = told.answer.state; signer = signer; closest_encloser = told.answer.closest_encloser; cause = told.answer.cause; adjusted = x; shown = None }) (sym bare.not_cut)
      ∙ ap (λ (x : Option ShownSet). record { group = group; state = told.answer.state; signer = signer; closest_encloser = told.answer.closest_encloser; cause = told.answer.cause; adjusted = told.answer.adjusted; shown = x }) (sym e))

-- whether a node is kept at a moment can be tested by whether it is expired
pub kept_test : (n : Node) (now : ℕ) (expired : Bool) → Decides expired (IsExpired n now)
    → not expired ≡ (nat_le n.made now && nat_le now (n.made + n.valid_for))
kept_test n now expired d = by expired refl (nat_le n.made now) refl (nat_le now (n.made + n.valid_for)) refl
  where
    by : (x : Bool) → expired ≡ x → (a : Bool) → nat_le n.made now ≡ a → (c : Bool) → nat_le now (n.made + n.valid_for) ≡ c → not x ≡ (a && c)
    by true g true e true f = elim (d.0 g) [
      | inl early ↦ let l = leb-true n.made now e in absurd (omega (arith, early, l))
      | inr late ↦ let l = leb-true now (n.made + n.valid_for) f in absurd (omega (arith, late, l))
    ]
    by true g false e c f = refl
    by true g true e false f = refl
    by false g true e true f = refl
    by false g false e c f =
        let early : now < n.made = (let l = leb-false n.made now e in omega (arith, l)) in absurd (false≢true (sym g ∙ d.1 (inl early)))
    by false g true e false f =
        let late : n.made + n.valid_for < now = (let l = leb-false now (n.made + n.valid_for) f in omega (arith, l)) in absurd (false≢true (sym g ∙ d.1 (inr late)))

-- an answer without a ground
abbrev pub plain : ValidationState → Finding → Answer
plain state f = record { state = state; closest_encloser = None; cause = cause_of f; adjusted = None }

-- what is told where no signature shows the group
pub unsigned_answer : (group : Group) (t : ℕ) (f : Finding) → signature_of f ≡ None → answer_by group t f ≡ plain (state_of f) f
unsigned_answer group t (is_shown links last signature) e = absurd cc
unsigned_answer group t has_no_set e = refl
unsigned_answer group t (is_insecure cause signed) e = refl
unsigned_answer group t (is_bogus cause links) e = refl
unsigned_answer group t is_indeterminate e = refl

pub unsigned_told : (accepts : Accepts) (group : Group) (zone : Place) (f : Finding) → signature_of f ≡ None
    → ToldBy accepts group zone (plain (state_of f) f) (state_of f) None
unsigned_told accepts group zone (is_shown links last signature) e = absurd cc
unsigned_told accepts group zone has_no_set e = record { no_encloser = refl; not_cut = refl }
unsigned_told accepts group zone (is_insecure cause signed) e = record { no_encloser = refl; not_cut = refl }
unsigned_told accepts group zone (is_bogus cause links) e = (record { no_encloser = refl; not_cut = refl }, refl)
unsigned_told accepts group zone is_indeterminate e = record { no_encloser = refl; not_cut = refl }

-- nothing shows it
pub unsigned_shown : (n : Node) (t : ℕ) (f : Finding) → signature_of f ≡ None → ShownAs n t f None (state_of f)
unsigned_shown n t (is_shown links last signature) e = absurd cc
unsigned_shown n t has_no_set e = refl
unsigned_shown n t (is_insecure cause signed) e = refl
unsigned_shown n t (is_bogus cause links) e = refl
unsigned_shown n t is_indeterminate e = refl

-- for how long that may be kept
pub unsigned_seconds : (w : World) (group : Group) (n : Node) → signature_of (found_at w group n n.standing) ≡ None
    → cond (is_secure n.standing) w.bounds.max_bogus_validity (seconds_kept n w.now)
    ≡ cond (is_secure n.standing) (seconds_by w group n (found_at w group n n.standing)) (seconds_kept n w.now)
unsigned_seconds w group n e = by n.standing e
  where
    by_tried : (keys : List (List ℕ)) (t : Tried (Record × Key)) → signature_of (found_by group n keys t) ≡ None
        → w.bounds.max_bogus_validity ≡ seconds_by w group n (found_by group n keys t)
    by_tried keys (good p) f = absurd cc
    by_tried keys nothing f = refl
    by_tried keys all_bad f = refl
    by_tried keys too_many_bad f = refl

    by : (s : Standing) → signature_of (found_at w group n s) ≡ None
        → cond (is_secure s) w.bounds.max_bogus_validity (seconds_kept n w.now) ≡ cond (is_secure s) (seconds_by w group n (found_at w group n s)) (seconds_kept n w.now)
    by (apex keys) f = by_tried keys (under_keys w n.signer keys group) f
    by (within last) f = refl
    by (insecure cause signed) f = refl
    by (bogus cause) f = refl

-- what is told where a signature shows it
pub signed_answer : (group : Group) (t : ℕ) (f : Finding) (s : Record) → signature_of f ≡ Some s
    → answer_by group t f ≡ record { state = Secure; closest_encloser = encloser_by group (rrsig_of s.rdata); cause = None; adjusted = adjusted_ttl group (ttl_for_sig s t) }
signed_answer group t (is_shown links last signature) s e =
    ap (λ (r : Record). record { state = Secure; closest_encloser = encloser_by group (rrsig_of r.rdata); cause = None; adjusted = adjusted_ttl group (ttl_for_sig r t) }) (same_Some signature s e)
signed_answer group t has_no_set s e = absurd cc
signed_answer group t (is_insecure cause signed) s e = absurd cc
signed_answer group t (is_bogus cause links) s e = absurd cc
signed_answer group t is_indeterminate s e = absurd cc

-- for how long that may be kept
pub signed_seconds : (w : World) (group : Group) (n : Node) (s : Record) → signature_of (found_at w group n n.standing) ≡ Some s
    → signed_for w group n s ≡ cond (is_secure n.standing) (seconds_by w group n (found_at w group n n.standing)) (seconds_kept n w.now)
signed_seconds w group n s e = by n.standing e
  where
    by_tried : (keys : List (List ℕ)) (t : Tried (Record × Key)) → signature_of (found_by group n keys t) ≡ Some s
        → signed_for w group n s ≡ seconds_by w group n (found_by group n keys t)
    by_tried keys (good p) f = ap (signed_for w group n) (sym (same_Some p.0 s f))
    by_tried keys nothing f = absurd cc
    by_tried keys all_bad f = absurd cc
    by_tried keys too_many_bad f = absurd cc

    by : (x : Standing) → signature_of (found_at w group n x) ≡ Some s
        → signed_for w group n s ≡ cond (is_secure x) (seconds_by w group n (found_at w group n x)) (seconds_kept n w.now)
    by (apex keys) f = by_tried keys (under_keys w n.signer keys group) f
    by (within last) f = absurd cc
    by (insecure cause signed) f = absurd cc
    by (bogus cause) f = absurd cc

-- a group that a signature shows has a link of its own, and the node has an anchor
pub signed_own : (f : Finding) (s : Record) → signature_of f ≡ Some s → IsSome (own_link f)
signed_own (is_shown links last signature) s e = refl
signed_own has_no_set s e = absurd cc
signed_own (is_insecure cause signed) s e = absurd cc
signed_own (is_bogus cause links) s e = absurd cc
signed_own is_indeterminate s e = absurd cc

module _ (accepts : Accepts) (group : Group) (n : Node) (t : ℕ) where
  pub rests_anchor : (f : Finding) → IsSome (own_link f) → RestsOn accepts group n t f → IsSome n.anchor
  rests_anchor (is_shown links last signature) e (same, (anchor, its, shows)) = subst IsSome (sym its) refl
  rests_anchor has_no_set e h = absurd cc
  rests_anchor (is_insecure cause signed) e h = absurd cc
  rests_anchor (is_bogus cause links) e h = absurd cc
  rests_anchor is_indeterminate e h = absurd cc

  -- the node's links and the group's own show it, from the node's anchor
  pub rests_shows : (f : Finding) (s : Record) (anchor : Record) (links : List Link) → signature_of f ≡ Some s → n.anchor ≡ Some anchor
      → IfSome (own_link f) (λ last. links ≡ n.links ++ last ∷ []) → RestsOn accepts group n t f
      → ShowsGroup accepts anchor links t group n.signer (encloser_by group (rrsig_of s.rdata)) (adjusted_ttl group (ttl_for_sig s t))
  rests_shows (is_shown old last signature) s anchor links e its are (same, (own, has, shows)) =
      subst (λ (r : Record). ShowsGroup accepts anchor links t group n.signer (encloser_by group (rrsig_of r.rdata)) (adjusted_ttl group (ttl_for_sig r t))) (same_Some signature s e)
      (subst (λ (ls : List Link). ShowsGroup accepts anchor ls t group n.signer (encloser_by group (rrsig_of signature.rdata)) (adjusted_ttl group (ttl_for_sig signature t))) (sym are)
      (subst (λ (a : Record). ShowsGroup accepts a (n.links ++ last ∷ []) t group n.signer (encloser_by group (rrsig_of signature.rdata)) (adjusted_ttl group (ttl_for_sig signature t)))
      (same_Some own anchor (sym has ∙ its)) shows))
  rests_shows has_no_set s anchor links e its are h = absurd cc
  rests_shows (is_insecure cause signed) s anchor links e its are h = absurd cc
  rests_shows (is_bogus cause other) s anchor links e its are h = absurd cc
  rests_shows is_indeterminate s anchor links e its are h = absurd cc

  -- they lead to a set
  pub rests_holds : (f : Finding) (anchor : Record) (links : List Link) → IsSome (own_link f) → n.anchor ≡ Some anchor
      → IfSome (own_link f) (λ last. links ≡ n.links ++ last ∷ []) → RestsOn accepts group n t f → (set : RecordSet) × Holds accepts (anchor ∷ []) links set t
  rests_holds (is_shown old last signature) anchor links e its are h =
      (set_in group, (rests_shows (is_shown old last signature) signature anchor links refl its are h).holds)
  rests_holds has_no_set anchor links e its are h = absurd cc
  rests_holds (is_insecure cause signed) anchor links e its are h = absurd cc
  rests_holds (is_bogus cause other) anchor links e its are h = absurd cc
  rests_holds is_indeterminate anchor links e its are h = absurd cc

  -- what is told with a signature that shows the group can be told
  pub signed_can : (f : Finding) (one : Record) (s : ShownSet) (enc : Option Labels) (adjusted : Option ℕ) (told : Told) → signature_of f ≡ Some one
      → RestsOn accepts group n t f → n.anchor ≡ Some s.anchor → s.moment ≡ t → IfSome (own_link f) (λ last. s.links ≡ n.links ++ last ∷ [])
      → enc ≡ encloser_by group (rrsig_of one.rdata) → adjusted ≡ adjusted_ttl group (ttl_for_sig one t)
      → told ≡ record { answer = record { state = Secure; closest_encloser = enc; cause = None; adjusted = adjusted }; shown = Some s }
      → CanBeTold accepts group n.signer told
  signed_can f one s enc adjusted told e rests its at are encloser cut is =
      let shows = rests_shows f one s.anchor s.links e its are rests in
      let moved : ShowsGroup accepts s.anchor s.links s.moment group n.signer enc adjusted =
      subst (λ (m : ℕ). ShowsGroup accepts s.anchor s.links m group n.signer enc adjusted) (sym at)
      (subst (λ (x : Option Labels). ShowsGroup accepts s.anchor s.links t group n.signer x adjusted) (sym encloser)
      (subst (λ (x : Option ℕ). ShowsGroup accepts s.anchor s.links t group n.signer (encloser_by group (rrsig_of one.rdata)) x) (sym cut) shows)) in
      subst (CanBeTold accepts group n.signer) (sym is) (moved, refl)

  -- and is shown by the node's links with the group's own behind them
  its_chain : (f : Finding) (one : Record) (s : ShownSet) → signature_of f ≡ Some one → n.anchor ≡ Some s.anchor → s.moment ≡ t
      → IfSome (own_link f) (λ last. s.links ≡ n.links ++ last ∷ []) → HasChainOf n t f (Some s)
  its_chain (is_shown links last signature) one s e its at are =
      record { set = s; its = refl; from_anchor = its; at = at; last = last; own = refl; are = are }
  its_chain has_no_set one s e its at are = absurd cc
  its_chain (is_insecure cause signed) one s e its at are = absurd cc
  its_chain (is_bogus cause other) one s e its at are = absurd cc
  its_chain is_indeterminate one s e its at are = absurd cc

  pub signed_shown : (f : Finding) (one : Record) (s : ShownSet) (enc : Option Labels) (adjusted : Option ℕ) (told : Told) → signature_of f ≡ Some one
      → n.anchor ≡ Some s.anchor → s.moment ≡ t → IfSome (own_link f) (λ last. s.links ≡ n.links ++ last ∷ [])
      → told ≡ record { answer = record { state = Secure; closest_encloser = enc; cause = None; adjusted = adjusted }; shown = Some s }
      → ShownAs n t f told.shown told.answer.state
  signed_shown f one s enc adjusted told e its at are is =
      subst (λ (x : Told). ShownAs n t f x.shown x.answer.state) (sym is) (its_chain f one s e its at are)
