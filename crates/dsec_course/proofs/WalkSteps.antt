-- What a step makes of a walk: its questions, its nodes, what it waits for and what it ends with.
use Rattle.std.proofs.Common.{◌≡◌, ◌⊎◌, ℕ, ◌&&◌, Bool, true, false, cond, List, [], ◌∷◌, ◌++◌, Option, Some, None, refl, sym, subst, inl, inr}
use Rattle.std.proofs.lemmas.Bool.{and_parts}
use Rattle.dsec_spec.specs.Numbers.{DS, DNSKEY}
use Rattle.dsec_nodes.specs.World.{World}
use Rattle.dsec_nodes.specs.Nodes.{Node, Standing, apex, within, insecure, bogus}
use Rattle.dsec_nodes.specs.Replies.{read_reply}
use Rattle.dsec_nodes.specs.ByDs.{Pending, Below, made, asks, by_ds_reply, by_key_reply}
use Rattle.dsec_nodes.specs.Walk.{by_anchor_reply, Reached, held_keys, may_stand}
use Rattle.dsec_nodes.specs.Taking.{counts, Taken}
use Rattle.dsec_nodes.specs.Machine.{Question, Phase, gets, asks_keys, ends, Walking, Step, node_get, node_put, ask, done, Input, begin, node, stored, reply, name_at, type_at, asked_type, arrived, in_phase, is_further, ahead_from, ahead, with_got, asking, given, heard, made_by, making, below_by, first_reply, key_reply, replied, advanced, Answers}
use Rattle.dsec_nodes.specs.InStep.{WaitsBelow}
use Rattle.dsec_nodes.proofs.AnswerCases.{each_answer}
use Rattle.dsec_nodes.proofs.NextLaws.{arrived_node}
use Rattle.dsec_nodes.proofs.TakingLaws.{taken, taken_itself}

-- what answers a walk's step answers what it waits for, and its question is the one under which the reply is kept
abbrev pub WalkAwaits : Step → Walking → Type 0
WalkAwaits (node_get name) t = (o : Option Node) → Answers t.phase (node o)
WalkAwaits (node_put name n) t = Answers t.phase stored
WalkAwaits (ask name rtype) t =
    ((octets : Option (List ℕ)) → Answers t.phase (reply octets)) × (name ≡ name_at t) × (rtype ≡ asked_type t.phase t.reached)
WalkAwaits (done n) t = Unit {0}

-- a walk that ends has reached the node with which it ends
abbrev pub HasReached : Step → Option Reached → Type 0
HasReached (done n) o = (r : Reached) × (o ≡ Some r) × (r.node ≡ n)
HasReached (node_get name) o = Unit {0}
HasReached (node_put name n) o = Unit {0}
HasReached (ask name rtype) o = Unit {0}

-- A walk with its next step is still from the same island to the same name, with these questions and nodes. What it waits for is told where
-- a key set is waited for below an island alone.
pub record Leaves (s : Walking) (asked : List Question) (got : List Node) (p : Walking × Step) : Type 0 where
  pub same_top : p.0.top ≡ s.top
  pub same_target : p.0.target ≡ s.target
  pub got_is : p.0.got ≡ got
  pub reached : HasReached p.1 p.0.reached
  pub asked_is : WaitsBelow s.phase s.reached → p.0.asked ≡ asked
  pub awaits : WaitsBelow s.phase s.reached → WalkAwaits p.1 p.0

-- the next step from what is reached
ahead_leaves : (t s : Walking) → s.top ≡ t.top → s.target ≡ t.target → Leaves t s.asked s.got (ahead s)
ahead_leaves t s a b = by s.reached refl
  where
    by_further : (r : Reached) → s.reached ≡ Some r → (x : Bool)
        → Leaves t s.asked s.got (cond {A = Walking × Step} x (in_phase s gets, node_get (name_at s)) (in_phase s ends, done r.node))
    by_further r e true = record { same_top = a; same_target = b; got_is = refl; reached = tt; asked_is = λ _. refl; awaits = λ _ o. tt }
    by_further r e false = record { same_top = a; same_target = b; got_is = refl; reached = (r, e, refl); asked_is = λ _. refl; awaits = λ _. tt }

    by : (o : Option Reached) → s.reached ≡ o → Leaves t s.asked s.got (ahead_from s o)
    by None e = record { same_top = a; same_target = b; got_is = refl; reached = tt; asked_is = λ _. refl; awaits = λ _ o. tt }
    by (Some r) e = by_further r e (is_further s r)

-- the step after a node was made
making_leaves : (s : Walking) (asked : List Question) (n : Node) → Leaves s asked s.got (making s asked n)
making_leaves s asked n = by n.standing
  where
    by : (x : Standing) → Leaves s asked s.got (made_by s asked n x)
    by (apex keys) = record { same_top = refl; same_target = refl; got_is = refl; reached = tt; asked_is = λ _. refl; awaits = λ _. tt }
    by (within last) = record { same_top = refl; same_target = refl; got_is = refl; reached = tt; asked_is = λ _. refl; awaits = λ _. tt }
    by (insecure cause signed) = record { same_top = refl; same_target = refl; got_is = refl; reached = tt; asked_is = λ _. refl; awaits = λ _. tt }
    by (bogus cause) = record {
      same_top = refl;
      same_target = refl;
      got_is = refl;
      reached = (arrived s.reached n, refl, arrived_node s.reached n);
      asked_is = λ _. refl;
      awaits = λ _. tt;
    }

-- a question for the next name
asking_leaves : (s : Walking) → Leaves s s.asked s.got (asking s)
asking_leaves s = record { same_top = refl; same_target = refl; got_is = refl; reached = tt; asked_is = λ _. refl; awaits = λ _. (λ octets. tt, refl, refl) }

-- the first reply at a name is kept with its question
first_leaves : (w : World) (s : Walking) (octets : Option (List ℕ))
    → Leaves s (heard s (type_at s.reached) octets) s.got (first_reply w s s.reached octets)
first_leaves w s octets = by s.reached
  where
    by_below : (b : Below) → Leaves s (heard s DS octets) s.got (below_by s (heard s DS octets) b)
    by_below (made n) = making_leaves s (heard s DS octets) n
    by_below (asks pending) = record { same_top = refl; same_target = refl; got_is = refl; reached = tt; asked_is = λ _. refl; awaits = λ _. (λ octets. tt, refl, refl) }

    by : (o : Option Reached) → Leaves s (heard s (type_at o) octets) s.got (first_reply w s o octets)
    by None = making_leaves s (heard s DNSKEY octets) (by_anchor_reply w s.top (read_reply octets))
    by (Some r) = by_below (by_ds_reply w r.zone (held_keys r.zone.standing) (name_at s) (read_reply octets))

-- so is the reply with a key set
key_leaves : (w : World) (s : Walking) (pending : Pending) (octets : Option (List ℕ)) → s.phase ≡ asks_keys pending
    → Leaves s (heard s DNSKEY octets) s.got (key_reply w s s.reached pending octets)
key_leaves w s pending octets phase = by s.reached refl
  where
    never : s.reached ≡ None → WaitsBelow s.phase s.reached → ⊥
    never e h = subst (λ (o : Option Reached). WaitsBelow (asks_keys pending) o) e (subst (λ (x : Phase). WaitsBelow x s.reached) phase h)

    by : (o : Option Reached) → s.reached ≡ o → Leaves s (heard s DNSKEY octets) s.got (key_reply w s o pending octets)
    by None e = record {
      same_top = refl;
      same_target = refl;
      got_is = refl;
      reached = tt;
      asked_is = λ h. absurd (never e h);
      awaits = λ h. absurd (never e h);
    }
    by (Some r) e = making_leaves s (heard s DNSKEY octets) (by_key_reply w r.zone pending (read_reply octets))

-- what was asked after an input
abbrev pub asked_after : Walking → Input → List Question
asked_after s (reply octets) = heard s (asked_type s.phase s.reached) octets
asked_after s begin = s.asked
asked_after s (node o) = s.asked
asked_after s stored = s.asked

-- the nodes that a walk was given are the same, or with the node of the input, which counts under the island
abbrev pub GotMore : World → Walking → Input → List Node → Type 0
GotMore w s input got =
    (got ≡ s.got) ⊎ ((n : Node) × (input ≡ node (Some n)) × (got ≡ s.got ++ n ∷ []) × Taken w s.top n.name n)

-- a walk after an input
pub record Advances (w : World) (s : Walking) (input : Input) : Type 0 where
  pub got : List Node
  pub leaves : Leaves s (asked_after s input) got (advanced w s input)
  pub more : GotMore w s input got

-- a node that was kept counts or is passed over
given_leaves : (w : World) (s : Walking) (o : Option Node)
    → (got : List Node) × Leaves s s.asked got (given w s o) × GotMore w s (node o) got
given_leaves w s None = (s.got, asking_leaves s, inl refl)
given_leaves w s (Some n) = by (counts w s.top (name_at s) n && may_stand s.reached n.standing) refl
  where
    by : (b : Bool) → (counts w s.top (name_at s) n && may_stand s.reached n.standing) ≡ b
        → (got : List Node) × Leaves s s.asked got (cond {A = Walking × Step} b (ahead (with_got s n)) (asking s)) × GotMore w s (node (Some n)) got
    by false e = (s.got, asking_leaves s, inl refl)
    by true e = (
      s.got ++ n ∷ [],
      ahead_leaves s (with_got s n) refl refl,
      inr (n, refl, refl, taken_itself w s.top (name_at s) n (taken w s.top (name_at s) n (and_parts _ _ e).0)),
    )

-- what an input that answers makes of a walk
pub advances : (w : World) (s : Walking) (input : Input) → Answers s.phase input → Advances w s input
advances w s input a = each_answer (λ x i. s.phase ≡ x → Advances w s i)
    (λ e. record { got = s.got; leaves = ahead_leaves s s refl refl; more = inl refl })
    (λ o e. let g = given_leaves w s o in record { got = g.0; leaves = g.1; more = g.2 })
    (λ octets e. record {
      got = s.got;
      leaves = subst (λ (x : Phase). Leaves s (heard s (asked_type x s.reached) octets) s.got (replied w s x octets)) (sym e) (first_leaves w s octets);
      more = inl refl;
    })
    (λ pending octets e. record {
      got = s.got;
      leaves = subst (λ (x : Phase). Leaves s (heard s (asked_type x s.reached) octets) s.got (replied w s x octets)) (sym e) (key_leaves w s pending octets e);
      more = inl refl;
    })
    (λ e. record { got = s.got; leaves = ahead_leaves s s refl refl; more = inl refl })
    s.phase input a refl
