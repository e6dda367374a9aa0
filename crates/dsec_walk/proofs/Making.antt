-- A node that was made, as the machine has it.
use Rattle.std.proofs.Common.{◌≡◌, ℕ, suc, ◌+◌, true, false, List, Some, refl, sym, ap, ◌∙◌, arith}
use Rattle.std.proofs.lemmas.Bool.{true≢false, false≢true}
use Rattle.dsec_spec.specs.Names.{Place}
use Rattle.dsec_nodes.specs.Nodes.{Node, Standing, apex, within, insecure, bogus, IsBogus}
use Rattle.dsec_nodes.specs.Walk.{Reached}
use Rattle.dsec_nodes.specs.Machine.{Question, Phase, puts, ends, Walking, node_put, done, name_at, arrived, with_node, made_by, making}

-- the walk with these parts
abbrev pub walk_by : Walking → ℕ → Reached → Phase → List Question → Walking
walk_by s behind here phase asked = record { top = s.top; target = s.target; behind = behind; reached = Some here; phase = phase; asked = asked; got = s.got }

parts : (s : Walking) (n m : Node) (behind : ℕ) (here : Reached) (phase : Phase) (asked : List Question) → m ≡ n → behind ≡ s.behind + 1
    → here ≡ arrived s.reached m → walk_by s behind here phase asked ≡ with_node s asked n phase
parts s n m behind here phase asked e b f =
    let one : behind ≡ suc s.behind = omega (arith, b) in
    ap (λ (k : ℕ). walk_by s k here phase asked) one
    ∙ ap (λ (h : Reached). walk_by s (suc s.behind) h phase asked) (f ∙ ap (arrived s.reached) e)

by_bogus : (s : Walking) (asked : List Question) (n : Node) (x : Standing) → IsBogus x ≡ true → made_by s asked n x ≡ (with_node s asked n ends, done n)
by_bogus s asked n (apex keys) e = absurd (false≢true e)
by_bogus s asked n (within last) e = absurd (false≢true e)
by_bogus s asked n (insecure cause signed) e = absurd (false≢true e)
by_bogus s asked n (bogus cause) e = refl

by_kept : (s : Walking) (asked : List Question) (n : Node) (x : Standing) → IsBogus x ≡ false → made_by s asked n x ≡ (with_node s asked n puts, node_put (name_at s) n)
by_kept s asked n (apex keys) e = refl
by_kept s asked n (within last) e = refl
by_kept s asked n (insecure cause signed) e = refl
by_kept s asked n (bogus cause) e = absurd (true≢false e)

-- a bogus node ends the walk
pub bogus_made : (s : Walking) (n m : Node) (behind : ℕ) (here : Reached) (asked : List Question) → m ≡ n → behind ≡ s.behind + 1
    → here ≡ arrived s.reached m → IsBogus n.standing ≡ true → (walk_by s behind here ends asked, done m) ≡ making s asked n
bogus_made s n m behind here asked e b f is =
    ap (λ (w : Walking). (w, done m)) (parts s n m behind here ends asked e b f)
    ∙ (ap (λ (x : Node). (with_node s asked n ends, done x)) e ∙ sym (by_bogus s asked n n.standing is))

-- any other is put
pub kept_made : (s : Walking) (n m : Node) (name : Place) (behind : ℕ) (here : Reached) (asked : List Question) → m ≡ n → name ≡ name_at s
    → behind ≡ s.behind + 1 → here ≡ arrived s.reached m → IsBogus n.standing ≡ false
    → (walk_by s behind here puts asked, node_put name m) ≡ making s asked n
kept_made s n m name behind here asked e named b f is =
    ap (λ (w : Walking). (w, node_put name m)) (parts s n m behind here puts asked e b f)
    ∙ (ap (λ (x : Node). (with_node s asked n puts, node_put name x)) e
    ∙ (ap (λ (x : Place). (with_node s asked n puts, node_put x n)) named ∙ sym (by_kept s asked n n.standing is)))
