-- Where an owner's records stand among all.
use Rattle.std.proofs.Common.{◌≡◌, ℕ, zero, suc, ◌+◌, ◌-◌, ◌≤◌, List, [], ◌∷◌, ◌++◌, length, take, drop, refl, sym, ap, ◌∙◌, arith, length-append}
use Rattle.dsec_spec.specs.Records.{Record}
use Rattle.dsec_chain.specs.Views.{IsPlaced}
use Rattle.dsec_chain.specs.declared.owners.InsideOwner.{InsideOwner}

-- how many records there are: those that were met, the owner's, and the others
pub counted : (records done rest mine others : List Record) → records ≡ done ++ rest → rest ≡ mine ++ others → length records ≡ length done + (length mine + length others)
counted records done rest mine others e f = ap length e ∙ (length-append done rest ∙ ap (λ (n : ℕ). length done + n) (ap length f ∙ length-append mine others))

past : (done rest : List Record) → drop (length done) (done ++ rest) ≡ rest
past [] rest = refl
past (r ∷ done) rest = past done rest

front : (mine others : List Record) → take (length mine) (mine ++ others) ≡ mine
front [] others = refl
front (r ∷ mine) others = ap (λ (rs : List Record). r ∷ rs) (front mine others)

-- the owner's records stand behind those that were met
pub placed : (records done rest others : List Record) (it : InsideOwner) → records ≡ done ++ rest → rest ≡ it.records.now ++ others → it.start ≡ length done → IsPlaced records it
placed records done rest others it e f start = record {
  within = omega (arith, counted records done rest it.records.now others e f, start);
  is = sym (rw (start, e, past done rest, f) (front it.records.now others));
}
