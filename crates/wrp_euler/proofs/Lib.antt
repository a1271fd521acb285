mod StarSums
mod StarCounts
mod WalkCounts
mod Places
mod TrailLaws
mod PieceLaws
mod SpentWalks
