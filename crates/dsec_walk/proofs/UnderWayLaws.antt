-- A walk that can be taken on can be so after each step, down to its end.
use Rattle.std.proofs.Common.{◌≡◌, ℕ, ◌+◌, ◌-◌, ◌*◌, ◌≤◌, ◌&&◌, Bool, true, false, cond, List, length, take, Option, Some, None, refl, sym, ap, ◌∙◌, subst, arith, length-append}
use Rattle.std.proofs.Math.Seq.{take-append_seam}
use Rattle.std.proofs.lemmas.Bool.{false≢true, and_parts, leb-true}
use Rattle.dsec_spec.specs.Names.{Place, IsAtOrBelow, IsStrictlyBelow}
use Rattle.dsec_spec.specs.Chain.{Link}
use Rattle.dsec_spec.specs.Numbers.{DS, DNSKEY}
use Rattle.dsec_nodes.specs.World.{World}
use Rattle.dsec_nodes.specs.Nodes.{Node, Standing, apex, within, insecure, bogus}
use Rattle.dsec_nodes.specs.Replies.{read_reply}
use Rattle.dsec_nodes.specs.ByDs.{Pending, Below, made, asks, by_ds_reply, by_key_reply}
use Rattle.dsec_nodes.specs.Walk.{by_anchor_reply, Reached, held_keys, after, goes_on, goes_on_at, may_stand}
use Rattle.dsec_nodes.specs.Machine.{started, Question, Phase, begins, gets, asks_first, asks_keys, puts, ends, Walking, Step, node_get, done, Input, node, reply, name_at, arrived, in_phase, is_further, ahead_from, ahead, with_got, asking, given, heard, made_by, making, below_by, first_reply, key_reply, replied, advanced, IsFurther, Answers}
use Rattle.dsec_nodes.specs.InStep.{Goes, InStep}
use Rattle.dsec_nodes.specs.SoundSteps.{SoundAt, PendingSound, SoundStep, InputKept, Sound}
use Rattle.dsec_nodes.specs.Taking.{counts}
use Rattle.dsec_nodes.proofs.AnswerCases.{each_answer}
use Rattle.dsec_nodes.proofs.AnchorLaws.{anchor_reply_under, anchor_reply_not_within}
use Rattle.dsec_nodes.proofs.ChildLaws.{BelowFollows, ds_reply_below, key_reply_below}
use Rattle.dsec_nodes.proofs.CountLaws.{advanced_counted, asked_at_most, started_counted}
use Rattle.dsec_nodes.proofs.MachineLaws.{advanced_goes, further_by, started_in_step}
use Rattle.dsec_nodes.proofs.SoundWalk.{advanced_sound, started_sound}
use Rattle.dsec_nodes.proofs.TakingLaws.{taken}
use Rattle.dsec_nodes.proofs.WalkLaws.{strictly_taken}
use Rattle.dsec_walk.specs.UnderWay.{IsZoneNow, IsInZone, IsUnderWay, Fits, FitsFirst, IsBelowZone, CanHear}

-- a name at or below a place has as many labels at least, and begins with them
pub begins_so : (target top : Place) → IsAtOrBelow target top → top ≡ take (length top) target
begins_so target top below = sym (ap (take (length top)) below.is ∙ take-append_seam top below.under)

pub shorter_so : (target top : Place) → IsAtOrBelow target top → length top ≤ length target
shorter_so target top below =
    let long : length target ≡ length top + length below.under = ap length below.is ∙ length-append top below.under in
    omega (arith, long)

-- a walk that hasn't begun can be taken on
pub started_under_way : (w : World) (target top : Place) → IsAtOrBelow target top → IsUnderWay w (started top target)
started_under_way w target top below = record {
  is_sound = started_sound w top target (begins_so target top below) (shorter_so target top below);
  is_counted = started_counted top target;
  in_zone = tt;
}

-- and it is in step with the recursion
pub started_so : (w : World) (target top : Place) → IsAtOrBelow target top → InStep w (started top target)
started_so w target top below = started_in_step w top target (begins_so target top below) (shorter_so target top below)

-- where a walk waits for a node or a reply the next name fits
fits_further : (w : World) (s : Walking) (o : Option Reached) → length s.top ≤ length s.target → SoundAt w s o → IsFurther s o → Fits s
fits_further w s None le f g = omega (arith, le, f)
fits_further w s (Some r) le f g = leb-true (length s.top + s.behind) (length s.target) (and_parts _ _ g).1

-- where nothing is reached it does
pub fits_first : (w : World) (s : Walking) → IsUnderWay w s → FitsFirst s s.reached
fits_first w s h = by s.reached refl
  where
    by : (o : Option Reached) → s.reached ≡ o → FitsFirst s o
    by None e = let none : s.behind ≡ 0 = subst (SoundAt w s) e h.is_sound.on_way in omega (arith, none, h.is_sound.shorter)
    by (Some r) e = tt

-- where a node is waited for it does
pub fits_node : (w : World) (s : Walking) (o : Option Node) → IsUnderWay w s → Answers s.phase (node o) → Fits s
fits_node w s o h a = by s.phase refl a
  where
    by : (x : Phase) → s.phase ≡ x → Answers x (node o) → Fits s
    by gets e b = fits_further w s s.reached h.is_sound.shorter h.is_sound.on_way (further_by s gets e h.is_sound.is_ahead)
    by begins e b = absurd b
    by asks_first e b = absurd b
    by (asks_keys pending) e b = absurd b
    by puts e b = absurd b
    by ends e b = absurd b

-- the zone below which the next name stands
below_zone : (w : World) (s : Walking) (o : Option Reached) → length s.top ≤ length s.target → SoundAt w s o → IsFurther s o → IsInZone w o → IsBelowZone w s o
below_zone w s None le f g z = tt
below_zone w s (Some r) le f g z =
    let on = and_parts _ _ g in
    let zone = f.3.in_zone on.0 in
    let fits = leb-true (length s.top + s.behind) (length s.target) on.1 in
    (z on.0, subst (λ (p : Place). IsStrictlyBelow (name_at s) p) (sym zone.is) (strictly_taken s.target zone.count (length s.top + s.behind) (omega (arith, zone.at_most, f.1)) fits))

-- where a reply is waited for it can be heard
pub can_hear : (w : World) (s : Walking) (octets : Option (List ℕ)) → IsUnderWay w s → Answers s.phase (reply octets) → CanHear w s
can_hear w s octets h a = by s.phase refl a
  where
    further : IsFurther s s.reached → CanHear w s
    further g = record {
      fits = fits_further w s s.reached h.is_sound.shorter h.is_sound.on_way g;
      below = below_zone w s s.reached h.is_sound.shorter h.is_sound.on_way g h.in_zone;
      pends = h.is_sound.pends;
      waits = h.is_counted.waits;
    }

    by : (x : Phase) → s.phase ≡ x → Answers x (reply octets) → CanHear w s
    by asks_first e b = further (further_by s asks_first e h.is_sound.is_ahead)
    by (asks_keys pending) e b = further (further_by s (asks_keys pending) e h.is_sound.is_ahead)
    by begins e b = absurd b
    by gets e b = absurd b
    by puts e b = absurd b
    by ends e b = absurd b

-- the last zone counts where a walk can go on
abbrev ZoneOf : World → Option Reached → Type 0
ZoneOf w None = Unit {0}
ZoneOf w (Some r) = IsZoneNow w r.zone

zone_of : (w : World) (s : Walking) (o : Option Reached) → IsFurther s o → IsInZone w o → ZoneOf w o
zone_of w s None g z = tt
zone_of w s (Some r) g z = z (and_parts _ _ g).0

-- a node that counts at the moment of judging keeps the last zone, or begins one
arrived_in_zone : (w : World) (o : Option Reached) (n : Node) → ZoneOf w o → may_stand o n.standing ≡ true → n.made ≤ w.now → w.now ≤ n.made + n.valid_for
    → IsInZone w (Some (arrived o n))
arrived_in_zone w None n z may from to = λ g. by n.standing refl g
  where
    by : (x : Standing) → n.standing ≡ x → goes_on n ≡ true → IsZoneNow w n
    by (apex keys) e g = record { keys = keys; begins = e; from = from; to = to }
    by (within last) e g = absurd (false≢true (sym (ap (may_stand None) e) ∙ may))
    by (insecure cause signed) e g = absurd (false≢true (sym (ap (goes_on_at n.name) e) ∙ g))
    by (bogus cause) e g = absurd (false≢true (sym (ap (goes_on_at n.name) e) ∙ g))
arrived_in_zone w (Some r) n z may from to = by n.standing refl
  where
    by : (x : Standing) → n.standing ≡ x → IsInZone w (Some (after r.zone n x))
    by (apex keys) e = λ g. record { keys = keys; begins = e; from = from; to = to }
    by (within last) e = λ g. z
    by (insecure cause signed) e = λ g. absurd (false≢true (sym (ap (goes_on_at n.name) e) ∙ g))
    by (bogus cause) e = λ g. absurd (false≢true (sym (ap (goes_on_at n.name) e) ∙ g))

-- the next step from what is reached reaches nothing more
ahead_in_zone : (w : World) (s : Walking) → IsInZone w s.reached → IsInZone w (ahead s).0.reached
ahead_in_zone w s z = by s.reached
  where
    by_further : (b : Bool) (r : Reached) → IsInZone w (cond {A = Walking × Step} b (in_phase s gets, node_get (name_at s)) (in_phase s ends, done r.node)).0.reached
    by_further true r = z
    by_further false r = z

    by : (o : Option Reached) → IsInZone w (ahead_from s o).0.reached
    by None = z
    by (Some r) = by_further (is_further s r) r

-- a node that was made is reached
making_in_zone : (w : World) (s : Walking) (asked : List Question) (n : Node) → IsInZone w (Some (arrived s.reached n)) → IsInZone w (making s asked n).0.reached
making_in_zone w s asked n z = by n.standing
  where
    by : (x : Standing) → IsInZone w (made_by s asked n x).0.reached
    by (apex keys) = z
    by (within last) = z
    by (insecure cause signed) = z
    by (bogus cause) = z

-- a node that was kept
given_in_zone : (w : World) (s : Walking) (o : Option Node) → IsFurther s s.reached → IsInZone w s.reached → IsInZone w (given w s o).0.reached
given_in_zone w s None g z = z
given_in_zone w s (Some n) g z = by (counts w s.top (name_at s) n && may_stand s.reached n.standing) refl
  where
    by : (b : Bool) → (counts w s.top (name_at s) n && may_stand s.reached n.standing) ≡ b → IsInZone w (cond {A = Walking × Step} b (ahead (with_got s n)) (asking s)).0.reached
    by false e = z
    by true e =
        let both = and_parts _ _ e in
        let t = taken w s.top (name_at s) n both.0 in
        ahead_in_zone w (with_got s n) (arrived_in_zone w s.reached n (zone_of w s s.reached g z) both.1 t.from t.to)

-- at the island a walk can stand on any node that isn't within a zone
may_first : (x : Standing) → ((last : Link) → x ≡ within last → ⊥) → may_stand None x ≡ true
may_first (apex keys) never = refl
may_first (within last) never = absurd (never last refl)
may_first (insecure cause signed) never = refl
may_first (bogus cause) never = refl

-- the first reply at a name
first_in_zone : (w : World) (s : Walking) (octets : Option (List ℕ)) → SoundStep w s → IsFurther s s.reached → IsInZone w s.reached
    → IsInZone w (first_reply w s s.reached octets).0.reached
first_in_zone w s octets h g z = by s.reached refl
  where
    zone : ZoneOf w s.reached
    zone = zone_of w s s.reached g z

    by_below : (r : Reached) → s.reached ≡ Some r → (b : Below) → BelowFollows w r.zone (held_keys r.zone.standing) (name_at s) b
        → IsInZone w (below_by s (heard s DS octets) b).0.reached
    by_below r e (made n) k =
        making_in_zone w s (heard s DS octets) n (arrived_in_zone w s.reached n zone (ap (λ (x : Option Reached). may_stand x n.standing) e) k.0.2 k.0.3)
    by_below r e (asks pending) k = z

    by : (o : Option Reached) → s.reached ≡ o → IsInZone w (first_reply w s o octets).0.reached
    by None e =
        let n = by_anchor_reply w s.top (read_reply octets) in
        let k = anchor_reply_under w s.top (read_reply octets) in
        making_in_zone w s (heard s DNSKEY octets) n (arrived_in_zone w s.reached n zone
        (ap (λ (x : Option Reached). may_stand x n.standing) e ∙ may_first n.standing (anchor_reply_not_within w s.top (read_reply octets))) k.0.2 k.0.3)
    by (Some r) e =
        let f = subst (SoundAt w s) e h.on_way in
        let further = subst (IsFurther s) e g in
        let below = subst (IsBelowZone w s) e (below_zone w s s.reached h.shorter h.on_way g z) in
        by_below r e (by_ds_reply w r.zone (held_keys r.zone.standing) (name_at s) (read_reply octets))
        (ds_reply_below w r.zone (held_keys r.zone.standing) (name_at s) (read_reply octets) (f.3.in_zone (and_parts _ _ further).0).zone_held below.1)

-- the reply with a key set that a DS set is to admit
key_in_zone : (w : World) (s : Walking) (pending : Pending) (octets : Option (List ℕ)) → SoundStep w s → PendingSound w s (asks_keys pending) s.reached
    → IsFurther s s.reached → IsInZone w s.reached → IsInZone w (key_reply w s s.reached pending octets).0.reached
key_in_zone w s pending octets h p g z = by s.reached refl
  where
    by : (o : Option Reached) → s.reached ≡ o → IsInZone w (key_reply w s o pending octets).0.reached
    by None e = z
    by (Some r) e =
        let n = by_key_reply w r.zone pending (read_reply octets) in
        let f = subst (SoundAt w s) e h.on_way in
        let further = subst (IsFurther s) e g in
        let q = subst (PendingSound w s (asks_keys pending)) e p in
        let k = key_reply_below w r.zone (held_keys r.zone.standing) pending (read_reply octets) (f.3.in_zone (and_parts _ _ further).0).zone_held q.0 in
        making_in_zone w s (heard s DNSKEY octets) n (arrived_in_zone w s.reached n (zone_of w s s.reached g z) (ap (λ (x : Option Reached). may_stand x n.standing) e) k.0.2 k.0.3)

-- each step keeps the last zone one that counts
advanced_in_zone : (w : World) (s : Walking) (input : Input) → IsUnderWay w s → Answers s.phase input → IsInZone w (advanced w s input).0.reached
advanced_in_zone w s input h a = each_answer (λ x i. s.phase ≡ x → IsInZone w (advanced w s i).0.reached)
    (λ e. ahead_in_zone w s h.in_zone)
    (λ o e. given_in_zone w s o (further_by s gets e h.is_sound.is_ahead) h.in_zone)
    (λ octets e. subst (λ (x : Phase). IsInZone w (replied w s x octets).0.reached) (sym e)
    (first_in_zone w s octets h.is_sound (further_by s asks_first e h.is_sound.is_ahead) h.in_zone))
    (λ pending octets e. subst (λ (x : Phase). IsInZone w (replied w s x octets).0.reached) (sym e)
    (key_in_zone w s pending octets h.is_sound (subst (λ (x : Phase). PendingSound w s x s.reached) e h.is_sound.pends) (further_by s (asks_keys pending) e h.is_sound.is_ahead) h.in_zone))
    (λ e. ahead_in_zone w s h.in_zone)
    s.phase input a refl

-- a walk that can be taken on can be so after each step
pub advanced_under_way : (w : World) (s : Walking) (input : Input) → IsUnderWay w s → Answers s.phase input → InputKept w input
    → IsUnderWay w (advanced w s input).0
advanced_under_way w s input h a k = record {
  is_sound = (advanced_sound w s input h.is_sound a k).0;
  is_counted = advanced_counted w s input h.is_counted a;
  in_zone = advanced_in_zone w s input h a;
}

-- and it has asked one question at most at its island, and two at each name below it down to its target
pub asked_few : (w : World) (s : Walking) → IsUnderWay w s → length s.asked ≤ 1 + 2 * (length s.target - length s.top)
asked_few w s h = asked_at_most w s h.is_sound h.is_counted

-- what holds of a walk and its step, where these are those of the definition
module _ (w : World) (s : Walking) (input : Input) (p : Walking × Step) (is : p ≡ advanced w s input) (h : IsUnderWay w s) (a : Answers s.phase input) (k : InputKept w input) where
  pub after_goes : InStep w s → Goes w p
  after_goes i = subst (Goes w) (sym is) (advanced_goes w s input i a)

  pub after_sound : Sound w p
  after_sound = subst (Sound w) (sym is) (advanced_sound w s input h.is_sound a k)

  pub after_under_way : IsUnderWay w p.0
  after_under_way = subst (λ (q : Walking × Step). IsUnderWay w q.0) (sym is) (advanced_under_way w s input h a k)

  pub after_few : length p.0.asked ≤ 1 + 2 * (length p.0.target - length p.0.top)
  after_few = asked_few w p.0 after_under_way
