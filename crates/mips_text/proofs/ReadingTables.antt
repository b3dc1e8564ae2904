-- If a function follows every reference in a list of references to texts, its n-th text is the one that the n-th reference refers to.
use Rattle.std.proofs.Common.{◌≡◌, ℕ, List, Bor, map, get_or, sym}
use Rattle.std.proofs.Math.ListN.{get_or-map}

-- the text behind the n-th reference is the n-th text
pub now_at : (l : List (Bor (List ℕ))) (n : ℕ) (d : Bor (List ℕ)) → (get_or l n d).now ≡ get_or (map (λ r. r.now) l) n d.now
now_at l n d = sym (get_or-map {A = Bor (List ℕ)} {B = List ℕ} (λ r. r.now) l n d)
