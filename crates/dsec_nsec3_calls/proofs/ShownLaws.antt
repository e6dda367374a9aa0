-- What a record that matches a name shows of a type there, test by test (RFC 5155 8.5, 8.6).
use Rattle.std.proofs.Common.{◌≡◌, ℕ, true, false, Some, refl}
use Rattle.dsec_cause.specs.declared.cause.Cause.TheVariants.{Nsec3ProvesType, Nsec3FromApexForDs, Nsec3FromParent}
use Rattle.dsec_spec.specs.Names.{Place}
use Rattle.dsec_spec.specs.Numbers.{CNAME}
use Rattle.dsec_spec.specs.DenyingRecords.{Nsec3At, has_hashed}
use Rattle.dsec_absence.specs.Tests.{is_ds_above}
use Rattle.dsec_nsec3.specs.Tests.{is_hashed_apex, is_hashed_cut, own_hash_shows}
use Rattle.dsec_nsec3_calls.specs.Tellings.{told_shown}
use Rattle.dsec_nsec3_calls.specs.declared.told.Told.TheVariants.{Disproved, Unshown}

module _ (i : ℕ) (r : Nsec3At) (n : Place) (q : ℕ) where
  pub with_type : has_hashed r q ≡ true → Unshown (Some Nsec3ProvesType) ≡ told_shown i (own_hash_shows r n q)
  with_type e = rw e refl

  module _ (no_type : has_hashed r q ≡ false) where
    pub with_alias : has_hashed r CNAME ≡ true → Unshown (Some Nsec3ProvesType) ≡ told_shown i (own_hash_shows r n q)
    with_alias e = rw (no_type, e) refl

    module _ (no_alias : has_hashed r CNAME ≡ false) where
      pub own_apex : is_ds_above n q ≡ true → is_hashed_apex r ≡ true → Unshown (Some Nsec3FromApexForDs) ≡ told_shown i (own_hash_shows r n q)
      own_apex d p = rw (no_type, no_alias, d, p) refl

      pub own_ds : is_ds_above n q ≡ true → is_hashed_apex r ≡ false → Disproved i ≡ told_shown i (own_hash_shows r n q)
      own_ds d p = rw (no_type, no_alias, d, p) refl

      pub own_parent : is_ds_above n q ≡ false → is_hashed_cut r ≡ true → Unshown (Some Nsec3FromParent) ≡ told_shown i (own_hash_shows r n q)
      own_parent d p = rw (no_type, no_alias, d, p) refl

      pub own_type : is_ds_above n q ≡ false → is_hashed_cut r ≡ false → Disproved i ≡ told_shown i (own_hash_shows r n q)
      own_type d p = rw (no_type, no_alias, d, p) refl
