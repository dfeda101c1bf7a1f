-- What the first octet of a UTF8-char decides: the row, and so how many octets there are and the bounds of the second.
use Rattle.std.specs.Prelude.{Option, Some, None, List, [], ◌∷◌, cond, ℕ, zero, suc, ◌+◌, ◌-◌, length, leb}
use Rattle.utf8.specs.Utf8.{Range, ◌to◌, within, tail, Row, rows, starts}
use Rattle.utf8.specs.declared.Lead.{Lead}

abbrev pub lead : ℕ → ℕ → ℕ → Lead
lead n a b = record { width = n; low = a; high = b }

-- of a row whose ranges after the first are these
abbrev pub lead_to : List Range → Lead
lead_to [] = lead 1 0 0
lead_to (r ∷ rs) = lead (2 + length rs) r.from r.to

-- of the row that x starts; None where x starts none
unfoldable pub lead_in : List Row → ℕ → Option Lead
lead_in [] x = None
lead_in (r ∷ rs) x = cond (within r.first x) (Some (lead_to r.rest)) (lead_in rs x)

abbrev pub lead_of : ℕ → Option Lead
lead_of = lead_in rows

-- k times UTF8-tail
unfoldable pub tails : ℕ → List Range
tails zero = []
tails (suc k) = tail ∷ tails k

-- how many octets the UTF8-char has with the text s after a first octet of this width and these bounds; 0 where s cannot follow
unfoldable pub follow : ℕ → ℕ → ℕ → List ℕ → ℕ
follow w a b s = cond (leb w 1) w (cond (starts ((a to b) ∷ tails (w - 2)) s) w 0)

abbrev pub followed : Option Lead → List ℕ → ℕ
followed None s = 0
followed (Some d) s = follow d.width d.low d.high s
