-- A name's text whose labels fit: whether the name does.
use Rattle.std.proofs.Common.{◌≡◌, ℕ, ◌+◌, ◌<◌, ◌≤◌, List, length, sym, ap, ◌∙◌, arith}
use Rattle.std.specs.Prelude.{All, Bool, false, Ok, Err}
use Rattle.dsec_spec.specs.Names.{Labels, wire_length}
use Rattle.dsec_name.specs.Keys.{IsWhole, labels_of}
use Rattle.dsec_name.specs.TextParts.{HasRead}
use Rattle.dsec_name.specs.TextReading.{text_labels_in, name_of_text_in}
use Rattle.dsec_name.specs.declared.error.NameError.TheVariants.{LongName}
use Rattle.dsec_name.proofs.NameParts.{IsWhole-octets, labels_of-octets, length-octets}
use Rattle.dsec_name.proofs.NameReading.{none_long}
use Rattle.dsec_name.proofs.NameTexts.{by_labels, name_in_written}
use Rattle.dsec_name.proofs.WireNames.{IsFitting, name_too_long, name_fits}

abbrev text_fitting : (origin : Labels) (text octets : List ℕ) (long : Bool) → HasRead origin text octets long → long ≡ false → IsFitting (text_labels_in origin text)
text_fitting origin text octets long h e = record { labels = h.labels; is = by_labels origin text h.labels h.read; fits = sym h.sized ∙ e }

size : (origin : Labels) (text octets : List ℕ) (long : Bool) → (h : HasRead origin text octets long) → long ≡ false → wire_length h.labels ≡ length octets + 1
size origin text octets long h e =
    let same = ap (λ (x : List ℕ). length x) (h.written e) in
    omega (arith, length-octets h.labels)

pub text_too_long : (origin : Labels) (text octets : List ℕ) (long : Bool) → HasRead origin text octets long → long ≡ false → 255 ≤ length octets → name_of_text_in origin text ≡ Err LongName
text_too_long origin text octets long h e l =
    name_too_long (text_labels_in origin text) (text_fitting origin text octets long h e) (let s = size origin text octets long h e in omega arith)

pub text_whole : (origin : Labels) (text octets : List ℕ) (long : Bool) → All (λ (x : List ℕ). 0 < length x) origin → HasRead origin text octets long → long ≡ false → length octets < 255 → IsWhole octets
text_whole origin text octets long named h e l =
    let s = size origin text octets long h e in
    let some = (name_in_written origin text h.labels named (by_labels origin text h.labels h.read)).1 in
    rw (h.written e) (IsWhole-octets h.labels (record { labels = none_long h.labels some (sym h.sized ∙ e); at_most = omega arith }))

pub text_fits : (origin : Labels) (text octets : List ℕ) (long : Bool) → HasRead origin text octets long → long ≡ false → length octets < 255 → name_of_text_in origin text ≡ Ok (labels_of octets)
text_fits origin text octets long h e l =
    let s = size origin text octets long h e in
    let same = ap labels_of (h.written e) ∙ labels_of-octets h.labels in
    rw same (name_fits (text_labels_in origin text) (text_fitting origin text octets long h e) (omega arith))
