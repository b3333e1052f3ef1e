-- No line has a negative size.
use mathlib.Core.Path.{◌≡◌, refl, ap}
use Rattle.meaning.specs.Integer.{is_negative}
use Rattle.meaning.specs.Figure.{Figure, line, ellipse, box, text}
use Rattle.meaning.specs.Picture.{plain_line, absolute, turned, line_of}
use Rattle.meaning.proofs.PictureLaws.{absolute_same, start_same}
use Rattle.claims.specs.Claims.{sizes_of, NoneNegative, SizesNotNegative, OthersStay}

turned_sizes : (a : Figure) → NoneNegative (sizes_of (turned a))
unfolding turned sizes_of absolute is_negative
turned_sizes (line x₁ y₁ x₂ y₂) = tt
turned_sizes (ellipse x y a b) = (refl, (refl, tt))
turned_sizes (box x y w h) = (refl, (refl, tt))
turned_sizes (text x y s) = tt

turned_same : (a : Figure) → NoneNegative (sizes_of a) → turned a ≡ a
unfolding turned sizes_of
turned_same (line x₁ y₁ x₂ y₂) h = refl
turned_same (ellipse x y a b) h = rw (absolute_same a h.0, absolute_same b h.1.0)
turned_same (box x y w h) n = rw (start_same x w n.0, start_same y h n.1.0, absolute_same w n.0, absolute_same h n.1.0)
turned_same (text x y s) h = refl

pub sizes_not_negative : SizesNotNegative
unfolding line_of
sizes_not_negative a = (refl, turned_sizes a)

pub others_stay : OthersStay
unfolding line_of
others_stay a h = ap plain_line (turned_same a h)
