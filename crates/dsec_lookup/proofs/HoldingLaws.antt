-- What caches hold after gets and puts was held before, or was put.
use Rattle.std.proofs.Common.{◌≡◌, ◌⊎◌, List, [], ◌++◌, Option, Some, None, refl, sym, ap, ◌∙◌, subst, inl, inr}
use Rattle.std.specs.Prelude.{Contains}
use Rattle.std.proofs.lemmas.Option.{same_Some}
use Rattle.dsec_spec.specs.Names.{Place}
use Rattle.dsec_spec.specs.Accepts.{Accepts}
use Rattle.dsec_spec.proofs.Members.{in_front}
use Rattle.dsec_nodes.specs.World.{World, Replies}
use Rattle.dsec_nodes.specs.Nodes.{Node, Kept}
use Rattle.dsec_nodes.specs.Likeness.{Likeness}
use Rattle.dsec_node.specs.Caches.{Held, IsHeld, Keeps, Adds}
use Rattle.dsec_course.specs.Hearing.{IsOfTable, CountsAt}
use Rattle.dsec_lookup.specs.Outside.{WasHeld, HoldsMore, HoldsAlike, AreApart}

pub more_none : (held : Option Held) → HoldsMore held held []
more_none None = refl
more_none (Some h) = λ p n e. inl e

-- with more puts
pub more_puts : (old now : Option Held) (puts more : List Node) → HoldsMore old now puts → HoldsMore old now (puts ++ more)
more_puts None now puts more h = h
more_puts (Some old) None puts more h = h
more_puts (Some old) (Some now) puts more h = λ p n e. elim (h p n e) [ inl x ↦ inl x | inr x ↦ inr (in_front n puts more x.0, x.1) ]

-- after a get
pub more_kept : (old now next : Option Held) (puts : List Node) → HoldsMore old now puts → Keeps now next → HoldsMore old next puts
more_kept None None next puts h k = k
more_kept None (Some now) next puts h k = let clash : Some now ≡ None = h in absurd cc
more_kept (Some old) None next puts h k = absurd h
more_kept (Some old) (Some now) None puts h k = k
more_kept (Some old) (Some now) (Some next) puts h k = λ p n e. h p n (k p n e)

-- after a put of a node that is among the puts, for its own name
pub more_added : (old now next : Option Held) (puts : List Node) (at : Place) (put : Node) → HoldsMore old now puts → Adds now next at put → Contains puts put
    → put.name ≡ at → HoldsMore old next puts
more_added None None next puts at put h a there own = a
more_added None (Some now) next puts at put h a there own = let clash : Some now ≡ None = h in absurd cc
more_added (Some old) None next puts at put h a there own = absurd h
more_added (Some old) (Some now) None puts at put h a there own = a
more_added (Some old) (Some now) (Some next) puts at put h a there own = λ p n e. elim (a p n e) [
  | inl x ↦ h p n x
  | inr x ↦ inr (subst (Contains puts) (sym x.1) there, ap (λ (m : Node). m.name) x.1 ∙ (own ∙ sym x.0))
]

-- a node that is held was held at first, or was put
pub given_from : (accepts : Accepts) (old now : Option Held) (puts : List Node) (name : Place) (n : Node) → HoldsMore old now puts → Kept accepts n
    → IsHeld now name n → WasHeld accepts old n ⊎ Contains puts n
given_from accepts None now puts name n h k e = inl (k, tt)
given_from accepts (Some old) None puts name n h k e = absurd h
given_from accepts (Some old) (Some now) puts name n h k e = elim (h name n e) [ inl x ↦ inl (k, (name, x)) | inr x ↦ inr x.0 ]

-- what was held is of a table where all that is told is
pub held_of_table : (like : Likeness) (w : World) (replies : Replies) (held : Option Held) → HoldsAlike like w replies held → (n : Node) → WasHeld w.accepts held n
    → IsOfTable like w replies n
held_of_table like w replies None h n x = absurd h
held_of_table like w replies (Some held) h n x = h x.1.0 n x.1.1

-- and so is all that is held afterwards, where the puts are
pub holds_after : (like : Likeness) (w : World) (replies : Replies) (old now : Option Held) (puts : List Node) → HoldsMore old now puts → HoldsAlike like w replies old
    → ((n : Node) → Contains puts n → IsOfTable like w replies n) → HoldsAlike like w replies now
holds_after like w replies None now puts m h of = absurd h
holds_after like w replies (Some old) None puts m h of = absurd m
holds_after like w replies (Some old) (Some now) puts m h of = λ p n e. elim (m p n e) [ inl x ↦ h p n x | inr x ↦ of n x.0 ]

-- a node that counts for one who judges by other limits, or has no anchor in common, may not count here, so that nothing is asked of it
pub apart_of_table : (like : Likeness) (w u : World) (replies : Replies) (n : Node) (top : Place) → AreApart w u → CountsAt u n top → IsOfTable like w replies n
apart_of_table like w u replies n top apart c = λ other may.
    let same : may.2.rests.anchor ≡ c.rests.anchor = same_Some may.2.rests.anchor c.rests.anchor (sym may.2.rests.its ∙ c.rests.its) in
    absurd (apart (sym may.2.within ∙ c.within) may.2.rests.anchor may.2.rests.is_listed
    (subst (Contains u.anchors) (sym same) c.rests.is_listed))

-- so what such a one puts leaves all that is held of a table
pub apart_holds : (like : Likeness) (w u : World) (replies : Replies) (old now : Option Held) (puts : List Node) → AreApart w u → HoldsMore old now puts
    → ((n : Node) → Contains puts n → (top : Place) × CountsAt u n top) → HoldsAlike like w replies old → HoldsAlike like w replies now
apart_holds like w u replies old now puts apart more counting h =
    holds_after like w replies old now puts more h (λ n there. let c = counting n there in apart_of_table like w u replies n c.0 apart c.1)
