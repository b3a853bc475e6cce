-- A value of ten bytes as a number.
use Rattle.std.specs.Prelude.{ℕ}
use Rattle.totals_spec.specs.ten_bytes.TwoWords.{joined}
use Rattle.values.specs.declared.Ten.{Ten}

abbrev pub ten_of : Ten → ℕ
ten_of b = joined b.head b.significand
