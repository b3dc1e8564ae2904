-- The first notices (warnings) of a list of features, followed by those of one more feature up to the limit, are the first notices of the longer list.
use Rattle.std.proofs.Common.{◌≡◌, ℕ, ◌+◌, ◌<◌, List, [], ◌++◌, map, length, take, get_or, ap, ◌∙◌, append_assoc}
use Rattle.std.specs.List.{flat_map}
use Rattle.cool_syntax.specs.declared.file_tree.Feature.{Feature}
use Rattle.cool_notices.specs.declared.kind.Notice.{Notice as Due}
use Rattle.cool_notices.specs.Notices.{up_to}
use Rattle.cool_notices.proofs.NoticesInOrder.{one_more, up_to_more}
use Rattle.cool_mend.specs.Noticed.{Saying, due_in_feature, due_saying}

pub next_feature : (most : ℕ) (front : List Due) (fs : List Feature) (i : ℕ) (d f : Feature) (all new : List Saying) → i < length fs → f ≡ get_or fs i d
    → all ≡ map due_saying (up_to most [] (front ++ flat_map due_in_feature (take i fs)))
    → ((before : List Due) → all ≡ map due_saying before → new ≡ map due_saying (up_to most before (due_in_feature f)))
    → new ≡ map due_saying (up_to most [] (front ++ flat_map due_in_feature (take (i + 1) fs)))
next_feature most front fs i d f all new within is so_far added =
    added (up_to most [] (front ++ flat_map due_in_feature (take i fs))) so_far
    ∙ ap (map due_saying) (up_to_more most [] (front ++ flat_map due_in_feature (take i fs)) (due_in_feature f))
    ∙ ap (λ (l : List Due). map due_saying (up_to most [] l))
    (append_assoc front (flat_map due_in_feature (take i fs)) (due_in_feature f) ∙ ap (λ (x : Feature). front ++ (flat_map due_in_feature (take i fs) ++ due_in_feature x)) is
    ∙ ap (λ (l : List Due). front ++ l) (one_more due_in_feature fs i d within))
