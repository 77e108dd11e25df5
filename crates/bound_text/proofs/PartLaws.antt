-- Parts with one more at the end: the last of them, the others, and their measures.
use Rattle.std.proofs.Common.{◌≡◌, false, Some, refl, ap}
use Rattle.text_core.specs.model.Bounds as plain
use Rattle.text_core.specs.model.Bounds.{Parts, NoParts, Part}
pub use Rattle.bound_expr.proofs.Lists.{parts_of-push, node_count-with_part, depth-with_part}
use Rattle.bound_text.specs.Shapes.{is_sum, is_empty, with_part}
use Rattle.bound_text.specs.ParserStates.{last, init, product_node, node_of_any}

-- the last of parts with one more at the end is that one
pub last-with_part : (bs : Parts) (b : plain.Bound) → last (with_part bs b) ≡ Some b
last-with_part NoParts b = refl
last-with_part (Part c NoParts) b = refl
last-with_part (Part c (Part d ds)) b = last-with_part (Part d ds) b

-- the parts but the last of parts with one more at the end are the parts before it
pub init-with_part : (bs : Parts) (b : plain.Bound) → init (with_part bs b) ≡ bs
init-with_part NoParts b = refl
init-with_part (Part c NoParts) b = refl
init-with_part (Part c (Part d ds)) b = ap (Part c) (init-with_part (Part d ds) b)

-- with one more factor a product counts where there was one before, or where it is a sum in brackets
pub product_node-with_part : (bs : Parts) (b : plain.Bound) → is_sum b ≡ false → product_node (with_part bs b) ≡ node_of_any bs
product_node-with_part NoParts b h = rw h refl
product_node-with_part (Part c NoParts) b h = refl
product_node-with_part (Part c (Part d ds)) b h = refl

-- parts with one more are not empty
pub is_empty-with_part : (bs : Parts) (b : plain.Bound) → is_empty (with_part bs b) ≡ false
is_empty-with_part NoParts b = refl
is_empty-with_part (Part c cs) b = refl

-- rewrites the measures of parts with one more
pub ruleset pushes = (parts_of-push, node_count-with_part, depth-with_part)

-- rewrites the last of parts, and the others
pub ruleset ends = (parts_of-push, last-with_part, init-with_part)
