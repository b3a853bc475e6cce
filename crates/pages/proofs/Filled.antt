-- One step of each loop: a page filled by one word more, and the lowest bit of one value more.
use mathlib.Core.Path.{◌≡◌, sym, ap, ◌∙◌, subst}
use mathlib.Core.List.{List, [], ◌∷◌, ◌++◌, map-append}
use Prim.Native.Nat.{ℕ, suc, ◌+◌, ◌*◌, ◌≤◌, ◌<◌, min}
use native.Mathlib.Omega.{arith}
use lib.ListN.{length, take, drop, get_or}
use lib.Seq.{take-suc}
use Rattle.totals_spec.specs.Basics.{least}
use Rattle.totals_spec.specs.entries.Bytes.{to_bytes}
use Rattle.totals_spec.specs.formats.Format.{binary64}
use Rattle.totals_spec.specs.chain.Limit.{low_of}
use Rattle.pages_spec.specs.Pages.{page_items, page_of, page_length}
use Rattle.totals_spec.specs.formats.Settings.{no_settings, value}
use Rattle.totals_spec.specs.terms.Terms.{item, term_of, terms}
use Rattle.pages_spec.proofs.PartsOfAPage.{front-next, next-length, next-beyond, page-value}
use Rattle.pages_spec.proofs.Pages.{page-size}
use Rattle.totals_spec.proofs.lists.FirstElements.{least-le, least-append, picked-append}
use Rattle.pages.specs.Paged.{Fills}

-- a word laid at k, of which j bytes are the page's
pub fills-next : (page old now : List ℕ) (k x j : ℕ) → Fills page k old now → k + 8 ≤ length old → k + 8 ≤ length page → j ≤ 8
    → take j (to_bytes 8 x) ≡ take j (drop k page) → Fills page (k + j) old (take k now ++ (to_bytes 8 x ++ drop (k + 8) now))
fills-next page old now k x j f room inside few w = record {
  front = front-next now page k x long j few f.front w;
  beyond = next-beyond now page k x long (length page) inside ∙ f.beyond;
  long = next-length now page k x long ∙ f.long;
}
  where
    long : k + 8 ≤ length now
    long = omega (arith, room, f.long)

least-from : {A : Type 0} (m : ℕ) (f : A → ℕ) (s t : List A) → least m f (s ++ t) ≡ least (least m f s) f t
least-from m f s t = least-append m f s t ∙ go t
  where
    go : (t : List _) → min (least m f s) (least m f t) ≡ least (least m f s) f t
    go [] = omega (arith, least-le m f s)
    go (x ∷ t) = omega (arith, go t)

-- the lowest bit of the first i values, and one more
pub bottom-next : (top : ℕ) (l : List ℕ) (i : ℕ) → i < length l
    → least top low_of (terms (page_items (take (suc i) l)))
    ≡ least (least top low_of (terms (page_items (take i l)))) low_of (terms (page_items (get_or l i 0 ∷ [])))
bottom-next top l i h =
    ap (λ (s : List ℕ). least top low_of (terms (page_items s))) (take-suc l i 0 h)
    ∙ ap (λ s. least top low_of (terms s)) (map-append (item binary64 no_settings value) (take i l) (get_or l i 0 ∷ []))
    ∙ ap (least top low_of) (picked-append term_of (page_items (take i l)) (page_items (get_or l i 0 ∷ [])))
    ∙ least-from top low_of (terms (page_items (take i l))) (terms (page_items (get_or l i 0 ∷ [])))

-- the value i laid in its place
pub value-laid : (values old now new : List ℕ) (i at : ℕ) → at ≡ 8 * i → i < length values → page_length (length values) ≤ length old
    → Fills (page_of values) (8 * i) old now → new ≡ take at now ++ (to_bytes 8 (get_or values i 0) ++ drop (at + 8) now)
    → Fills (page_of values) (8 * (i + 1)) old new
unfolding page_length
value-laid values old now new i at e h room f w =
    subst (Fills (page_of values) (8 * (i + 1)) old) (sym (w ∙ ap (λ (k : ℕ). take k now ++ (to_bytes 8 x ++ drop (k + 8) now)) e))
    (subst (λ (k : ℕ). Fills (page_of values) k old (take (8 * i) now ++ (to_bytes 8 x ++ drop (8 * i + 8) now))) place
    (fills-next (page_of values) old now (8 * i) x 8 f (omega (arith, h, room)) (omega (arith, h, page-size values)) (omega arith)
    (sym (page-value values i h))))
  where
    x : ℕ
    x = get_or values i 0

    place : 8 * i + 8 ≡ 8 * (i + 1)
    place = omega arith
