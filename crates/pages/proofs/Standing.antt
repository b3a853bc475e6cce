-- A summary in its place, by the two words that are read there.
use mathlib.Core.Path.{◌≡◌, sym, ap, ◌∙◌}
use mathlib.Core.Logic.{◌≢◌}
use mathlib.Core.List.{List}
use Prim.Native.Nat.{ℕ, ◌+◌, ◌-◌, ◌*◌, ◌%◌, ◌≤◌, ◌<◌}
use native.Mathlib.Omega.{arith}
use lib.Dec.{eqb}
use lib.ListN.{length, take, drop, get_or, length-drop}
use lib.Seq.{take_all, take-take}
use borrow.Author.Tests.{eqb-true, eq-eqb}
use Rattle.std.specs.Prelude.{◌↔◌, IsTrue}
use Rattle.totals_spec.specs.entries.Bytes.{from_bytes, to_bytes, values_from, values_in}
use Rattle.pages_spec.specs.Pages.{group_size}
use Rattle.pages_spec.proofs.PartsOfAPage.{AllBytes, Stands, bytes-at, twelve_bytes, twelve-back}
use Rattle.totals_spec.proofs.entries.ValuesInBytes.{values-at}
use Rattle.pages.specs.declared.Summary.{Summary}
use Rattle.pages.specs.Paged.{Summarized}

-- a word that is read from a place on
pub word-there : (page : List ℕ) (at : ℕ) → at + 8 ≤ length page
    → get_or (values_in (take (length page - at) (drop at page))) 0 0 ≡ from_bytes (take 8 (drop at page))
word-there page at h =
    ap (λ (l : List ℕ). get_or (values_in l) 0 0) (take_all (length page - at) (drop at page) (omega (arith, length-drop at page)))
    ∙ values-at (drop at page) 0 (omega (arith, h, length-drop at page))

-- its lower half
pub low_half : (page : List ℕ) (at : ℕ) → AllBytes page → at + 8 ≤ length page
    → from_bytes (take 4 (drop at page)) ≡ from_bytes (take 8 (drop at page)) % 4294967296
low_half page at f h =
    ap from_bytes (sym (take-take 4 8 (drop at page) (omega arith)) ∙ ap (take 4) (sym (bytes-at 8 at page f h))) ∙ four (from_bytes (take 8 (drop at page)))
  where
    four : (x : ℕ) → from_bytes (to_bytes 4 x) ≡ x % 4294967296
    four x = omega arith

module _ (n g : ℕ) (page : List ℕ) (s : Summary) (m : Summarized (take group_size (drop (group_size * g) (values_from n page))) s)
    (less : s.extent < 18446744073709551616) where
  abbrev at : ℕ
  at = 8 * n + 12 * g

  words : Stands n page g → (from_bytes (take 8 (drop at page)) ≡ s.extent) × (from_bytes (take 4 (drop (at + 8) page)) ≡ s.class)
  words h = twelve-back at s.extent s.class page less (omega (arith, m.class-less)) (h ∙ sym m.bytes)

  pub first-fails : (w : ℕ) → w ≡ from_bytes (take 8 (drop at page)) → w ≢ s.extent → IsTrue (eqb w s.extent) ↔ Stands n page g
  first-fails w e k = (λ h. absurd (k (eqb-true w s.extent h)), λ h. absurd (k (e ∙ (words h).0)))

  pub second-tells : (w v : ℕ) → w ≡ from_bytes (take 8 (drop at page)) → v ≡ from_bytes (take 8 (drop (at + 8) page)) → w ≡ s.extent → AllBytes page
      → at + 16 ≤ length page → IsTrue (eqb (v % 4294967296) s.class) ↔ Stands n page g
  second-tells w v e d k f room = (
    (λ h. twelve_bytes at s.extent s.class page f (omega (arith, room)) (sym e ∙ k) (half ∙ eqb-true (v % 4294967296) s.class h) ∙ m.bytes),
    λ h. eq-eqb (v % 4294967296) s.class (sym half ∙ (words h).1),
  )
    where
      half : from_bytes (take 4 (drop (at + 8) page)) ≡ v % 4294967296
      half = low_half page (at + 8) f (omega (arith, room)) ∙ ap (λ (x : ℕ). x % 4294967296) (sym d)
