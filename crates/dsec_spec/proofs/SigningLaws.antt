-- Which records are signed, of a zone beside its chain: the chain has no delegations, so that those of the zone decide.
use Rattle.std.proofs.Common.{◌≡◌, ◌≢◌, ◌&&◌, ◌||◌, ◌==◌, Bool, true, false, List, ◌++◌, refl, ap, ◌∙◌, eqb-true}
use Rattle.std.specs.Prelude.{Contains, filter}
use Rattle.std.specs.List.{list_any, flat_map}
use Rattle.std.proofs.lemmas.List.Folds.{list_any-append}
use Rattle.std.proofs.lemmas.List.Elements.{filter-append}
use Rattle.dsec_spec.specs.Names.{Place, place, same_place, is_strictly_below}
use Rattle.dsec_spec.specs.Numbers.{NS}
use Rattle.dsec_spec.specs.Records.{Record}
use Rattle.dsec_spec.proofs.Members.{some_passes}
use Rattle.dsec_spec.specs.ZonesOfRecords.{is_cut, is_delegation, is_cut_off}
use Rattle.dsec_spec.specs.OwnersInside.{Inside, AreInside}
use Rattle.dsec_spec.specs.SetsToSign.{is_signed, is_to_sign, to_sign}
use Rattle.dsec_spec.proofs.InsideLaws.{chosen_inside}
use Rattle.dsec_spec.proofs.Choosing.{both, filter_like}

-- what is signed is what is signed of each owner inside the zone
pub signed_inside : (apex : Place) (records : List Record) (owners : List Inside) → AreInside apex records owners → to_sign apex records ≡ flat_map (λ (o : Inside). filter (is_signed apex o.cut) o.records) owners
signed_inside apex records owners are = chosen_inside apex records owners (is_signed apex) are

or_false : (a : Bool) → (a || false) ≡ a
or_false true = refl
or_false false = refl

-- no test that asks for a delegation passes where no record is one
no_cuts : (apex : Place) (chain : List Record) (test : Record → Bool) → ((r : Record) → Contains chain r → r.rtype ≢ NS) → list_any (λ r. is_cut apex r && test r) chain ≡ false
no_cuts apex chain test plain = by (list_any (λ r. is_cut apex r && test r) chain) refl
  where
    by : (b : Bool) → list_any (λ r. is_cut apex r && test r) chain ≡ b → b ≡ false
    by false e = refl
    by true e =
        let f = some_passes (λ r. is_cut apex r && test r) chain e in
        let h = both (is_cut apex f.0) (test f.0) f.2 in
        let g = both (f.0.rtype == NS) (is_strictly_below (place f.0.owner) apex) h.0 in
        absurd (plain f.0 f.1 (eqb-true f.0.rtype NS g.0))

module _ (apex : Place) (zone chain : List Record) (plain : (r : Record) → Contains chain r → r.rtype ≢ NS) where
  pub same_delegations : (n : Place) → is_delegation apex (zone ++ chain) n ≡ is_delegation apex zone n
  same_delegations n =
      list_any-append (λ r. is_cut apex r && same_place (place r.owner) n) zone chain
      ∙ (ap (λ (b : Bool). is_delegation apex zone n || b) (no_cuts apex chain (λ r. same_place (place r.owner) n) plain) ∙ or_false (is_delegation apex zone n))

  pub same_cut_off : (n : Place) → is_cut_off apex (zone ++ chain) n ≡ is_cut_off apex zone n
  same_cut_off n =
      list_any-append (λ r. is_cut apex r && is_strictly_below n (place r.owner)) zone chain
      ∙ (ap (λ (b : Bool). is_cut_off apex zone n || b) (no_cuts apex chain (λ r. is_strictly_below n (place r.owner)) plain) ∙ or_false (is_cut_off apex zone n))

  same_test : (r : Record) → is_to_sign apex (zone ++ chain) r ≡ is_to_sign apex zone r
  same_test r = rw (same_cut_off (place r.owner), same_delegations (place r.owner)) refl

  -- what is signed of both together is what is signed of each by the zone's delegations
  pub signed_apart : to_sign apex (zone ++ chain) ≡ filter (is_to_sign apex zone) zone ++ filter (is_to_sign apex zone) chain
  signed_apart =
      filter_like (is_to_sign apex (zone ++ chain)) (is_to_sign apex zone) (zone ++ chain) (λ r _. same_test r)
      ∙ filter-append (is_to_sign apex zone) zone chain
