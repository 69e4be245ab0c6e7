-- The assets of a layer, one part behind the other.
use Rattle.std.proofs.Common.{◌≡◌, ◌∙◌, ap, ℕ, List, [], ◌++◌, length, map}
use Rattle.composition.specs.Texts.{Text}
use Rattle.sdf_paths.specs.declared.element.Element.{Element}
use Rattle.sdf_specs.specs.Layers.{LayerTable}
use Rattle.spec_parts.specs.declared.items.SubLayer.{SubLayer}
use Rattle.layer_load.specs.Assets.{assets_of_prims, assets_within, assets_of_layer}

pub layer_joined : (layer : LayerTable) (out first empty : List Text) (subs : List SubLayer) (n : ℕ) (start : List Element) (names : List Text)
    → out ≡ first ++ assets_of_prims layer.specs (assets_within layer.specs n) start names → first ≡ empty ++ map (λ (s : SubLayer). s.asset) subs → empty ≡ []
    → subs ≡ layer.head.sublayers → n ≡ length layer.specs → start ≡ [] → names ≡ layer.head.root_names → out ≡ assets_of_layer layer
unfolding assets_of_layer
layer_joined layer out first empty subs n start names is front none subs_are levels top roots =
    let sublayers : List Text = map (λ (s : SubLayer). s.asset) layer.head.sublayers in
    is
    ∙ (ap (λ (x : List Text). x ++ assets_of_prims layer.specs (assets_within layer.specs n) start names)
    (front ∙ (ap (λ (x : List Text). x ++ map (λ (s : SubLayer). s.asset) subs) none ∙ ap (λ (ss : List SubLayer). map (λ (s : SubLayer). s.asset) ss) subs_are))
    ∙ (ap (λ (m : ℕ). sublayers ++ assets_of_prims layer.specs (assets_within layer.specs m) start names) levels
    ∙ (ap (λ (p : List Element). sublayers ++ assets_of_prims layer.specs (assets_within layer.specs (length layer.specs)) p names) top
    ∙ ap (λ (ns : List Text). sublayers ++ assets_of_prims layer.specs (assets_within layer.specs (length layer.specs)) [] ns) roots)))
