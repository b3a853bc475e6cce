-- What a text holds: all of its 64 bytes are fixed, those of the text and then zeros.
use Rattle.std.specs.Prelude.{◌≡◌, ℕ, List, ◌++◌, ◌-◌, ◌≤◌, length, take, replicate}
use Rattle.std.proofs.Common.{sym, ap₂}
use Rattle.text.specs.declared.write.Text.TheInside.{Inside}

pub record Holds (t : Inside) (l : List ℕ) : Type 0 where
  pub fits : length l ≤ 64
  pub length-is : t.length ≡ length l
  pub bytes-are : t.bytes ≡ l ++ replicate (64 - length l) 0

-- the text: as many bytes as its length says
abbrev pub held : Inside → List ℕ
held t = take t.length t.bytes

-- the length and the bytes that hold a text
abbrev pub laid : List ℕ → Inside
laid l = record { length = length l; bytes = l ++ replicate (64 - length l) 0 }

-- they are told by the text alone
pub laid_held : (t : Inside) → Holds t (held t) → laid (held t) ≡ t
laid_held t h =
    let make : ℕ → List ℕ → Inside = λ n bytes. record { length = n; bytes = bytes } in
    ap₂ make (sym h.length-is) (sym h.bytes-are)
