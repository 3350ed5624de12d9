mod OfImports
