-- The program reads the lines that are written.
use mathlib.Core.Path.{◌≡◌, refl, sym, ap, ◌∙◌, subst}
use mathlib.Core.Logic.{inl, inr, ◌≢◌}
use mathlib.Core.Bool.{Bool, true, false, not, ◌&&◌, cond, true≢false}
use mathlib.Core.List.{List, [], ◌∷◌, ◌++◌, map}
use Prim.Native.Nat.{ℕ, zero, suc, ◌+◌, ◌-◌, ◌*◌, ◌/◌, ◌%◌, ◌^◌, ◌≤◌, ◌<◌}
use native.Mathlib.Nat.{suc-ne-zero, mod-lt, add-zero, div-lt_iff_lt-mul, pow-succ', mul_comm}
use native.Mathlib.Omega.{arith}
use lib.Dec.{T, eqb, ltb, leb, ltb→lt, nltb→le, leb→le, eqb→eq}
use lib.ListN.{length}
use Rattle.std.proofs.Math.Option.{Option, none, some}
use borrow.Author.Tests.{ne_eqb, eq-eqb, le-ltb, le-leb, lt-leb}
use Rattle.std.proofs.lemmas.List.{length-append, append_assoc, append-nil}
use Rattle.totals_spec.specs.program.Program.{onto, lines, hex_digit, more_hex, hex_from}
use Rattle.totals_spec.specs.program.Program.{line_value, Read, values, bad_line, taken, read_from}
use Rattle.totals_spec.specs.program.Program.{hex_byte, hex_text}
use Rattle.totals_spec.specs.program.Program.{text_of, program_text}
use Rattle.promises.specs.Special.{AllOf}
use Rattle.promises.specs.Lines.{spelt, AllOf64, Digit, Bad, Program-totals, Program-last, Program-refuses, Program-full}

-- ---- lines

free-line : (l rest : List ℕ) → AllOf (λ b. b ≢ 10) l → lines (l ++ (10 ∷ rest)) ≡ l ∷ lines rest
free-line [] rest h = refl
free-line (b ∷ l) rest h =
    ap (λ (t : Bool). cond t ([] ∷ lines (l ++ (10 ∷ rest))) (onto b (lines (l ++ (10 ∷ rest))))) (ne_eqb b 10 h.0)
    ∙ ap (onto b) (free-line l rest h.1)

-- an end behind the last byte, which is none, adds no line
last-end : (bytes : List ℕ) (b : ℕ) → b ≢ 10 → lines (bytes ++ (b ∷ [])) ≡ lines (bytes ++ (b ∷ (10 ∷ [])))
last-end [] b h = rw (ne_eqb b 10 h) refl
last-end (x ∷ bytes) b h = ap (λ (ls : List (List ℕ)). cond (eqb x 10) ([] ∷ ls) (onto x ls)) (last-end bytes b h)

pub program-last : Program-last
unfolding program_text
program-last bytes b h = ap (λ (ls : List (List ℕ)). text_of (read_from 1 ls)) (last-end bytes b h)

-- ---- digits

hex-back : (d : ℕ) → d < 16 → hex_digit (hex_byte d) ≡ some d
hex-back d h = go (ltb d 10) (λ t. ltb→lt d 10 t) (λ t. nltb→le d 10 t)
  where
    low : (n : ℕ) → n ≡ d + 48 → n ≤ 57 → hex_digit n ≡ some d
    low n e l = rw (le-leb 48 n (omega (arith, e)), le-leb n 57 l) (ap some (omega (arith, e)))

    high : (n : ℕ) → n ≡ d + 87 → 97 ≤ n → hex_digit n ≡ some d
    high n e l = rw (le-leb 48 n (omega (arith, l)), lt-leb n 57 (omega (arith, l)), le-leb 97 n l, le-leb n 102 (omega (arith, e, h)))
        (ap some (omega (arith, e)))

    go : (t : Bool) → (T t → d < 10) → (T (not t) → 10 ≤ d) → hex_digit (cond t (d + 48) (d + 87)) ≡ some d
    go true l g = low (d + 48) refl (let z : d < 10 = l tt in omega (arith, z))
    go false l g = high (d + 87) refl (let z : 10 ≤ d = g tt in omega (arith, z))

hex-free : (d : ℕ) → d < 16 → hex_byte d ≢ 10
hex-free d h = go (ltb d 10)
  where
    go : (t : Bool) → cond t (d + 48) (d + 87) ≢ 10
    go true e = omega (arith, e)
    go false e = omega (arith, e)

hex-from-append : (xs ys : List ℕ) (o : Option ℕ) → hex_from (xs ++ ys) o ≡ hex_from ys (hex_from xs o)
hex-from-append [] ys o = refl
hex-from-append (x ∷ xs) ys o = hex-from-append xs ys (more_hex o (hex_digit x))

sixteen : 0 < 16
sixteen = omega arith

hex-value : (n x : ℕ) → x < 16 ^ n → hex_from (hex_text n x) (some 0) ≡ some x
unfolding hex_text
hex-value zero x h = ap some (let z : 0 ≡ x = omega (arith, h) in z)
hex-value (suc n) x h =
    hex-from-append (hex_text n (x / 16)) (hex_byte (x % 16) ∷ []) (some 0)
    ∙ ap (λ (o : Option ℕ). more_hex o (hex_digit (hex_byte (x % 16)))) (hex-value n (x / 16) smaller)
    ∙ ap (λ (o : Option ℕ). more_hex (some (x / 16)) o) (hex-back (x % 16) (mod-lt x sixteen))
    ∙ ap some (let z : 16 * (x / 16) + x % 16 ≡ x = omega arith in z)
  where
    smaller : x / 16 < 16 ^ n
    smaller = (div-lt_iff_lt-mul sixteen).1 (subst (λ (z : ℕ). x < z) (pow-succ' 16 n ∙ mul_comm 16 (16 ^ n)) h)

pub hex-long : (n x : ℕ) → length (hex_text n x) ≡ n
unfolding hex_text
hex-long zero x = refl
hex-long (suc n) x = length-append (hex_text n (x / 16)) (hex_byte (x % 16) ∷ []) ∙ omega (arith, hex-long n (x / 16))

pub all-append : {A : Type 0} (P : A → Type 0) (xs ys : List A) → AllOf P xs → AllOf P ys → AllOf P (xs ++ ys)
all-append P [] ys h k = k
all-append P (x ∷ xs) ys h k = (h.0, all-append P xs ys h.1 k)

hex-no-end : (n x : ℕ) → AllOf (λ b. b ≢ 10) (hex_text n x)
unfolding hex_text
hex-no-end zero x = tt
hex-no-end (suc n) x = all-append (λ b. b ≢ 10) (hex_text n (x / 16)) (hex_byte (x % 16) ∷ []) (hex-no-end n (x / 16)) (hex-free (x % 16) (mod-lt x sixteen), tt)

line-back : (x : ℕ) → x < 2 ^ 64 → line_value (hex_text 16 x) ≡ some x
line-back x h = rw (eq-eqb (length (hex_text 16 x)) 16 (hex-long 16 x)) (hex-value 16 x h)

-- ---- values in front

abbrev behind : List ℕ → Read → Read
behind [] r = r
behind (x ∷ l) r = taken (some x) 0 (behind l r)

behind-values : (l : List ℕ) → behind l (values []) ≡ values l
behind-values [] = refl
behind-values (x ∷ l) = ap (taken (some x) 0) (behind-values l)

behind-bad : (l : List ℕ) (n : ℕ) → behind l (bad_line n) ≡ bad_line n
behind-bad [] n = refl
behind-bad (x ∷ l) n = ap (taken (some x) 0) (behind-bad l n)

same-taken : (x n : ℕ) (r : Read) → taken (some x) n r ≡ taken (some x) 0 r
same-taken x n (values l) = refl
same-taken x n (bad_line m) = refl

spelt-lines : (l rest : List ℕ) → lines (spelt l ++ rest) ≡ map (hex_text 16) l ++ lines rest
spelt-lines [] rest = refl
spelt-lines (x ∷ l) rest =
    ap lines (append_assoc (hex_text 16 x) (10 ∷ spelt l) rest) ∙ free-line (hex_text 16 x) (spelt l ++ rest) (hex-no-end 16 x)
    ∙ ap (λ (ls : List (List ℕ)). hex_text 16 x ∷ ls) (spelt-lines l rest)

read-through : (n : ℕ) (l : List ℕ) (ls : List (List ℕ)) → AllOf64 l → n + length l ≤ 8193
    → read_from n (map (hex_text 16) l ++ ls) ≡ behind l (read_from (n + length l) ls)
unfolding read_from
read-through n [] ls h e = ap (λ (k : ℕ). read_from k ls) (sym (add-zero n))
read-through n (x ∷ l) ls h e =
    rw (le-ltb 8192 n (omega (arith, e)), line-back x h.0)
    (same-taken x n (read_from (suc n) (map (hex_text 16) l ++ ls))
    ∙ ap (taken (some x) 0) (read-through (suc n) l ls h.1 (omega (arith, e)) ∙ ap (λ (k : ℕ). behind l (read_from k ls)) (omega arith)))

reads : (l rest : List ℕ) → AllOf64 l → length l ≤ 8192
    → program_text (spelt l ++ rest) ≡ text_of (behind l (read_from (suc (length l)) (lines rest)))
unfolding program_text
reads l rest h e =
    ap (λ (ls : List (List ℕ)). text_of (read_from 1 ls)) (spelt-lines l rest)
    ∙ ap text_of (read-through 1 l (lines rest) h (omega (arith, e)) ∙ ap (λ (k : ℕ). behind l (read_from k (lines rest))) (omega arith))

-- ---- THE LAWS

pub program-totals : Program-totals
unfolding read_from
program-totals l h e = ap program_text (sym (append-nil (spelt l))) ∙ reads l [] h e ∙ ap text_of (behind-values l)

abbrev is-none : Option ℕ → Bool
is-none none = true
is-none (some n) = false

-- a value that is read has digits alone
digits-read : (l : List ℕ) (o : Option ℕ) (x : ℕ) → hex_from l o ≡ some x → AllOf Digit l
digits-read [] o x e = tt
digits-read (b ∷ l) o x e = (digit o (hex_digit b) refl e, digits-read l (more_hex o (hex_digit b)) x e)
  where
    never : (l : List ℕ) → hex_from l none ≡ some x → ⊥
    never [] e = true≢false (ap is-none e)
    never (c ∷ l) e = never l e

    is-digit : (d : ℕ) → hex_digit b ≡ some d → Digit b
    is-digit d = go (leb 48 b) (leb b 57) (leb 97 b) (leb b 102) (leb→le 48 b) (leb→le b 57) (leb→le 97 b) (leb→le b 102)
      where
        none-some : (o : Option ℕ) → is-none o ≡ true → o ≡ some d → ⊥
        none-some o q e = true≢false (sym q ∙ ap is-none e)

        go : (p q r s : Bool) → (T p → 48 ≤ b) → (T q → b ≤ 57) → (T r → 97 ≤ b) → (T s → b ≤ 102)
            → cond (p && q) (some (b - 48)) (cond (r && s) (some (b - 87)) none) ≡ some d → Digit b
        go true true r s i j k m e = inl (i tt, j tt)
        go true false true true i j k m e = inr (k tt, m tt)
        go false q true true i j k m e = inr (k tt, m tt)
        go true false true false i j k m e = absurd (none-some none refl e)
        go true false false s i j k m e = absurd (none-some none refl e)
        go false q true false i j k m e = absurd (none-some none refl e)
        go false q false s i j k m e = absurd (none-some none refl e)

    digit : (o d : Option ℕ) → hex_digit b ≡ d → hex_from l (more_hex o d) ≡ some x → Digit b
    digit none d i e = absurd (never l e)
    digit (some a) none i e = absurd (never l e)
    digit (some a) (some d) i e = is-digit d i

bad-none : (line : List ℕ) → Bad line → line_value line ≡ none
bad-none line h = go (eqb (length line) 16) (eqb→eq (length line) 16) (hex_from line (some 0)) (λ x e. digits-read line (some 0) x e)
  where
    go : (t : Bool) → (T t → length line ≡ 16) → (o : Option ℕ) → ((x : ℕ) → o ≡ some x → AllOf Digit line) → cond t o none ≡ none
    go false e o d = refl
    go true e none d = refl
    go true e (some x) d = absurd (h (e tt, d x refl))

pub program-refuses : Program-refuses
unfolding read_from
program-refuses l line rest h e free bad =
    reads l (line ++ (10 ∷ rest)) h (omega (arith, e))
    ∙ ap (λ (ls : List (List ℕ)). text_of (behind l (read_from (suc (length l)) ls))) (free-line line rest free)
    ∙ rw (le-ltb 8192 (suc (length l)) (omega (arith, e)), bad-none line bad) (ap text_of (behind-bad l (suc (length l))))

module _ (n : ℕ) (full : n ≡ 8193) where
  beyond : (ls : List (List ℕ)) → ((ls ≡ []) → ⊥) → read_from n ls ≡ bad_line 8193
  unfolding read_from
  beyond [] k = absurd (k refl)
  beyond (x ∷ ls) k = rw full refl

  some-line : (b : ℕ) (rest : List ℕ) → read_from n (lines (b ∷ rest)) ≡ bad_line 8193
  some-line b rest = beyond (lines (b ∷ rest)) (λ z. none-left (eqb b 10) (lines rest) z)
    where
      not-nil : (x : List ℕ) (xs : List (List ℕ)) → (x ∷ xs) ≡ [] → ⊥
      not-nil x xs e = suc-ne-zero (length xs) (ap length e)

      none-left : (t : Bool) (ls : List (List ℕ)) → cond t ([] ∷ ls) (onto b ls) ≡ [] → ⊥
      none-left true ls z = not-nil [] ls z
      none-left false [] z = not-nil (b ∷ []) [] z
      none-left false (x ∷ ls) z = not-nil (b ∷ x) ls z

pub program-full : Program-full
program-full l rest b h e =
    reads l (b ∷ rest) h (omega (arith, e)) ∙ ap text_of (ap (behind l) (some-line (suc (length l)) (omega (arith, e)) b rest) ∙ behind-bad l 8193)
