-- Numbers modulo any m, and their opposites.
use Rattle.std.specs.Prelude.{ℕ, ◌-◌, ◌%◌}

-- -n modulo m
unfoldable pub opposite : ℕ → ℕ → ℕ
opposite m n = (m - n % m) % m
