-- What a scan's answer says of the test that it comes from.
use Rattle.std.specs.Prelude.{◌≡◌, refl, Bool, true, false, ℕ, Option, Some, None}
use Rattle.std.specs.Bool.{then_some}

pub some_fits : (t : Bool) (n : ℕ) {r : Option ℕ} {e : ℕ} → r ≡ then_some t n → r ≡ Some e → t ≡ true
some_fits true n w h = refl
some_fits false n w h = cc

pub some_is : (t : Bool) (n : ℕ) {r : Option ℕ} {e : ℕ} → r ≡ then_some t n → r ≡ Some e → e ≡ n
some_is true n w h = cc
some_is false n w h = cc

pub none_fits : (t : Bool) (n : ℕ) {r : Option ℕ} → r ≡ then_some t n → r ≡ None → t ≡ false
none_fits true n w h = cc
none_fits false n w h = refl
