use Rattle.std.proofs.Common.{◌≡◌, ℕ, List, Bool, true, false, cond, refl, ◌∙◌, ap, Some}
use Rattle.std.specs.Prelude.{Option, option_map, string_bytes, bytes_eq}
use Rattle.std.proofs.lemmas.Map.Text.{btree_map_updates_text}
use Rattle.std.proofs.lemmas.Result.{IfOk-at_ok}
use Rattle.cool_ports.proofs.mem_shelf.MemShelf.put_file.Goals as goal

-- the value of a key, after a change of one key
option_map-cond : {X Y : Type 0} (f : X → Y) (b : Bool) (x : X) (o : Option X) → option_map f (cond b (Some x) o) ≡ cond b (Some (f x)) (option_map f o)
option_map-cond f true x o = refl
option_map-cond f false x o = refl

-- the same file under a name that is the same
file_set : (key name items bytes q : List ℕ) (o : Option (List ℕ)) → key ≡ name → items ≡ bytes → cond (bytes_eq key q) (Some items) o ≡ cond (bytes_eq name q) (Some bytes) o
file_set key name items bytes q o e f = cc

-- the key has the bytes of the name, so `insert` set the file of this name
pub returns-clause-ok : goal.returns-clause-ok
returns-clause-ok c = λ q.
    let key_is_name = IfOk-at_ok (λ s. string_bytes s ≡ c.args.name.now) c.in_ok-key.was c.from_str.ensures.ok in
    let sets = btree_map_updates_text (string_bytes c.in_ok-key.key) c.args.self.now.contents c.insert.new.self _ c.in_ok-insert.ensures.updates q in
    ap (option_map (λ file. file.items)) sets
    ∙ option_map-cond (λ file. file.items) (bytes_eq (string_bytes c.in_ok-key.key) q) _ _
    ∙ file_set _ _ _ _ q _ key_is_name c.in_ok-copy.ensures.items
