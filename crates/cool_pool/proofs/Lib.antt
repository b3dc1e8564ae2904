mod PlacingNodes
